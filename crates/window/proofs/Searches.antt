-- A search from the newest place down.
use Rattle.std.proofs.Common.{◌≡◌, ℕ, zero, suc, List, get_or, slice_get, Bool, true, false, cond, Some, None, Option, is_some, sym, refl}
use Rattle.std.proofs.lemmas.Option.{get_or_from_slice_get}
use Rattle.window.specs.declared.entry.Source.{Source}
use Rattle.window.specs.declared.entry.Source.TheVariants.{Memory, Forwarded}
use Rattle.window.specs.Entries.{given}
use Rattle.rings.specs.Searches.{newest_below}
use Rattle.window.specs.Scans.{decides}
use Rattle.window.specs.Rings.{Window, StoreBuffer, entry, store_below, buffer_entry, matches, row_below}

-- what was read from a place
pub read : {A : Type 0} (xs : List A) (i : ℕ) (x d : A) → slice_get xs i ≡ Some x → x ≡ get_or xs i d
read xs i x d e = sym (get_or_from_slice_get xs i x d e)

-- what the newest that decides says, and the newest store's word
pub store_is : (w : Window) (i n : ℕ) → store_below w i n ≡ given (newest_below (λ k. is_some (decides i (entry w k))) n) None (λ k. decides i (entry w k))
store_is w i zero = refl
store_is w i (suc n) = by (store_is w i n) (decides i (entry w n)) refl
  where
    by : store_below w i n ≡ given (newest_below (λ k. is_some (decides i (entry w k))) n) None (λ k. decides i (entry w k)) → (o : Option Source) → decides i (entry w n) ≡ o
        → given o (store_below w i n) Some ≡ given (cond (is_some o) (Some n) (newest_below (λ k. is_some (decides i (entry w k))) n)) None (λ k. decides i (entry w k))
    by others None e = others
    by others (Some s) e = sym e

pub row_is_newest : (b : StoreBuffer) (i n : ℕ) → row_below b i n ≡ given (newest_below (matches b i) n) Memory (λ k. Forwarded (buffer_entry b k).value)
row_is_newest b i zero = refl
row_is_newest b i (suc n) = by (row_is_newest b i n) (matches b i n)
  where
    by : row_below b i n ≡ given (newest_below (matches b i) n) Memory (λ k. Forwarded (buffer_entry b k).value) → (t : Bool) → cond t (Forwarded (buffer_entry b n).value) (row_below b i n) ≡ given (cond t (Some n) (newest_below (matches b i) n)) Memory (λ k. Forwarded (buffer_entry b k).value)
    by others true = refl
    by others false = others
