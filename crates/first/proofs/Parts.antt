-- The core's parts, written into the words one after the other from the front.
use Rattle.std.proofs.Common.{◌≡◌, ℕ, ◌+◌, List, ◌++◌, length, drop, sym, refl, ap, append_assoc, arith, length-append}
use borrow.Rule.Slice.PartMut.{put_mid, post_of}
use Rattle.std.proofs.lemmas.List.{take_at, drop_at, drop-drop}

-- after the parts p, which reach to a, a part of k words more
put_next : (p ys w : List ℕ) (a k b : ℕ) → length p ≡ a → a + k ≡ b → put_mid a k (p ++ drop a w) ys ≡ (p ++ ys) ++ drop b w
put_next p ys w a k b h e =
    rw (take_at p (drop a w) a h, drop_at p (drop a w) a h, drop-drop k a w, e) (sym (append_assoc p ys (drop b w)))

length_next : (p ys : List ℕ) (a k b : ℕ) → length p ≡ a → length ys ≡ k → a + k ≡ b → length (p ++ ys) ≡ b
length_next p ys a k b h l e = rw length-append (omega arith)

-- the six parts, by what they are
pub parts_are :
    (w a b c d e f A B C D E F : List ℕ) → a ≡ A → b ≡ B → c ≡ C → d ≡ D → e ≡ E → f ≡ F
    → length a ≡ 4 → length b ≡ 6 → length c ≡ 3 → length d ≡ 5 → length e ≡ 18
    → put_mid 36 32 (put_mid 18 18 (put_mid 13 5 (put_mid 10 3 (put_mid 4 6 (a ++ post_of 0 4 w) b) c) d) e) f ≡ (A ++ (B ++ (C ++ (D ++ (E ++ F))))) ++ drop 68 w
parts_are w a b c d e f A B C D E F ea eb ec ed ee ef la lb lc ld le =
    let l1 : length (a ++ b) ≡ 10 = length_next a b 4 6 10 la lb refl in
    let l2 : length ((a ++ b) ++ c) ≡ 13 = length_next (a ++ b) c 10 3 13 l1 lc refl in
    let l3 : length (((a ++ b) ++ c) ++ d) ≡ 18 = length_next ((a ++ b) ++ c) d 13 5 18 l2 ld refl in
    let l4 : length ((((a ++ b) ++ c) ++ d) ++ e) ≡ 36 = length_next (((a ++ b) ++ c) ++ d) e 18 18 36 l3 le refl in
    rw (put_next a b w 4 6 10 la refl, put_next (a ++ b) c w 10 3 13 l1 refl, put_next ((a ++ b) ++ c) d w 13 5 18 l2 refl, put_next (((a ++ b) ++ c) ++ d) e w 18 18 36 l3 refl, put_next ((((a ++ b) ++ c) ++ d) ++ e) f w 36 32 68 l4 refl, ea, eb, ec, ed, ee, ef)
    (ap (λ (x : List ℕ). x ++ drop 68 w) (simp append_assoc))
