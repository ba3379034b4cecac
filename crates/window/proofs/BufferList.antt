-- The store buffer's methods are the machine's rules on the list of waiting stores.
use Rattle.std.proofs.Common.{◌≡◌, ℕ, zero, suc, ◌+◌, ◌/◌, ◌%◌, cond, ◌&&◌, eqb, ltb, List, [], ◌∷◌, ◌++◌, get_or, sym, refl, ap, ◌∙◌, arith}
use Rattle.pins.specs.declared.held.Store.{Store}
use Rattle.window.specs.declared.entry.Source.{Source}
use Rattle.window.specs.declared.entry.Source.TheVariants.{Memory, Forwarded}
use Rattle.window.specs.Newest.{by_store, row_source}
use Rattle.window.specs.Rings.{StoreBuffer, no_store, buffer_entry, row_below, around, listed, BufferLaws}
use Rattle.window.proofs.Circle.{slot_is, around_last}
use Rattle.window.proofs.ListOf.{list_laws}

row_push : (i : ℕ) (k : Source) (ps : List Store) (p : Store) → row_source i k (ps ++ (p ∷ [])) ≡ by_store i p.address p.value (row_source i k ps)
row_push i k [] p = refl
row_push i k (q ∷ ps) p = row_push i (by_store i q.address q.value k) ps p

-- the code's test is the machine's
by_match : (a i x : ℕ) (k : Source) → cond (ltb a 2147483648 && eqb (a / 4) i) (Forwarded x) k ≡ by_store i a x k
by_match a i x k = grind arith

row_is : (b : StoreBuffer) (i n : ℕ) → row_below b i n ≡ row_source i Memory (around 8 no_store b.at b.begin n)
row_is b i zero = refl
row_is b i (suc n) =
    let e : get_or b.at ((b.begin + n) % 8) no_store ≡ buffer_entry b n = ap (λ z. get_or b.at z no_store) (sym (slot_is 8 b.begin n)) in
    by_match (buffer_entry b n).address i (buffer_entry b n).value (row_below b i n)
    ∙ ap (by_store i (buffer_entry b n).address (buffer_entry b n).value) (row_is b i n)
    ∙ sym (ap (row_source i Memory) (around_last 8 (omega arith) no_store b.at b.begin n)
    ∙ row_push i Memory (around 8 no_store b.at b.begin n) _
    ∙ ap (λ (p : Store). by_store i p.address p.value (row_source i Memory (around 8 no_store b.at b.begin n))) e)

pub buffer_laws : BufferLaws
unfolding listed
buffer_laws = record { list = list_laws 8 (omega arith) no_store; source = λ b i. row_is b i b.count }
