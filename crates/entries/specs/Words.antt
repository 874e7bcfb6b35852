-- The start of an area after an entry's words are stored after it, or read there; and an area whose start was copied. Assumes nothing.
use Rattle.std.specs.Prelude.{◌≡◌, refl, List, [], ◌∷◌, ◌++◌, ℕ, suc, ◌+◌, ◌*◌, ◌≤◌, ◌<◌, length, take, drop, set, get_or}
use Rattle.std.proofs.Common.{sym, ◌∙◌, append_assoc, arith, add-one, length-set, length-append, length-drop, take-suc, take-suc-set, drop-cons, length-take-le}
use Rattle.std.proofs.lemmas.List.{set_at}

-- one element stored, and one read
put-more : {A : Type 0} (l : List A) (i k : ℕ) (v : A) (p : List A) → k ≡ i + 1 → i < length l → take i l ≡ p → take k (set l i v) ≡ p ++ (v ∷ [])
put-more l i k v p n h e = rw (n, add-one i, take-suc-set l i v h, e)

get-more : {A : Type 0} (l : List A) (i k : ℕ) (d : A) (p : List A) → k ≡ i + 1 → i < length l → take i l ≡ p → take k l ≡ p ++ (get_or l i d ∷ [])
get-more l i k d p n h e = rw (n, add-one i, take-suc l i d h, e)

pub one-stored : {A : Type 0} (l : List A) (i : ℕ) (v : A) → i < length l → take (i + 1) (set l i v) ≡ take i l ++ (v ∷ [])
one-stored l i v h = put-more l i (i + 1) v (take i l) refl h refl

pub one-read : {A : Type 0} (l : List A) (i : ℕ) (d : A) → i < length l → take (i + 1) l ≡ take i l ++ (get_or l i d ∷ [])
one-read l i d h = get-more l i (i + 1) d (take i l) refl h refl

module _ (l : List ℕ) (i : ℕ) where
  pub three-stored : (a b c : ℕ) → 3 * i + 3 ≤ length l
      → take (3 * (i + 1)) (set (set (set l (3 * i) a) (3 * i + 1) b) (3 * i + 2) c) ≡ take (3 * i) l ++ (a ∷ b ∷ c ∷ [])
  three-stored a b c h =
      let l₁ = set l (3 * i) a in
      let l₂ = set l₁ (3 * i + 1) b in
      let p = take (3 * i) l in
      let s₁ = put-more l (3 * i) (3 * i + 1) a p refl (omega arith) refl in
      let s₂ = put-more l₁ (3 * i + 1) (3 * i + 2) b (p ++ (a ∷ [])) (omega arith) (simp length-set (omega arith)) s₁ in
      let s₃ = put-more l₂ (3 * i + 2) (3 * (i + 1)) c ((p ++ (a ∷ [])) ++ (b ∷ [])) (omega arith) (simp length-set (omega arith)) s₂ in
      s₃ ∙ simp append_assoc

  pub three-read : 3 * i + 3 ≤ length l → take (3 * (i + 1)) l ≡ take (3 * i) l ++ (get_or l (3 * i) 0 ∷ get_or l (3 * i + 1) 0 ∷ get_or l (3 * i + 2) 0 ∷ [])
  three-read h =
      let p = take (3 * i) l in
      let a = get_or l (3 * i) 0 in
      let b = get_or l (3 * i + 1) 0 in
      let s₁ = get-more l (3 * i) (3 * i + 1) 0 p refl (omega arith) refl in
      let s₂ = get-more l (3 * i + 1) (3 * i + 2) 0 (p ++ (a ∷ [])) (omega arith) (omega arith) s₁ in
      let s₃ = get-more l (3 * i + 2) (3 * (i + 1)) 0 ((p ++ (a ∷ [])) ++ (b ∷ [])) (omega arith) (omega arith) s₂ in
      s₃ ∙ simp append_assoc

  pub six-stored : (a b c d e f : ℕ) → 6 * i + 6 ≤ length l
      → take (6 * (i + 1)) (set (set (set (set (set (set l (6 * i) a) (6 * i + 1) b) (6 * i + 2) c) (6 * i + 3) d) (6 * i + 4) e) (6 * i + 5) f)
      ≡ take (6 * i) l ++ (a ∷ b ∷ c ∷ d ∷ e ∷ f ∷ [])
  six-stored a b c d e f h =
      let l₁ = set l (6 * i) a in
      let l₂ = set l₁ (6 * i + 1) b in
      let l₃ = set l₂ (6 * i + 2) c in
      let l₄ = set l₃ (6 * i + 3) d in
      let l₅ = set l₄ (6 * i + 4) e in
      let p = take (6 * i) l in
      let s₁ = put-more l (6 * i) (6 * i + 1) a p refl (omega arith) refl in
      let s₂ = put-more l₁ (6 * i + 1) (6 * i + 2) b (p ++ (a ∷ [])) (omega arith) (simp length-set (omega arith)) s₁ in
      let s₃ = put-more l₂ (6 * i + 2) (6 * i + 3) c ((p ++ (a ∷ [])) ++ (b ∷ [])) (omega arith) (simp length-set (omega arith)) s₂ in
      let s₄ = put-more l₃ (6 * i + 3) (6 * i + 4) d (((p ++ (a ∷ [])) ++ (b ∷ [])) ++ (c ∷ [])) (omega arith) (simp length-set (omega arith)) s₃ in
      let s₅ = put-more l₄ (6 * i + 4) (6 * i + 5) e ((((p ++ (a ∷ [])) ++ (b ∷ [])) ++ (c ∷ [])) ++ (d ∷ [])) (omega arith) (simp length-set (omega arith)) s₄ in
      let s₆ = put-more l₅ (6 * i + 5) (6 * (i + 1)) f (((((p ++ (a ∷ [])) ++ (b ∷ [])) ++ (c ∷ [])) ++ (d ∷ [])) ++ (e ∷ [])) (omega arith) (simp length-set (omega arith)) s₅ in
      s₆ ∙ simp append_assoc

  pub six-read : 6 * i + 6 ≤ length l
      → take (6 * (i + 1)) l ≡ take (6 * i) l ++ (get_or l (6 * i) 0 ∷ get_or l (6 * i + 1) 0 ∷ get_or l (6 * i + 2) 0 ∷ get_or l (6 * i + 3) 0 ∷ get_or l (6 * i + 4) 0 ∷ get_or l (6 * i + 5) 0 ∷ [])
  six-read h =
      let p = take (6 * i) l in
      let a = get_or l (6 * i) 0 in
      let b = get_or l (6 * i + 1) 0 in
      let c = get_or l (6 * i + 2) 0 in
      let d = get_or l (6 * i + 3) 0 in
      let e = get_or l (6 * i + 4) 0 in
      let s₁ = get-more l (6 * i) (6 * i + 1) 0 p refl (omega arith) refl in
      let s₂ = get-more l (6 * i + 1) (6 * i + 2) 0 (p ++ (a ∷ [])) (omega arith) (omega arith) s₁ in
      let s₃ = get-more l (6 * i + 2) (6 * i + 3) 0 ((p ++ (a ∷ [])) ++ (b ∷ [])) (omega arith) (omega arith) s₂ in
      let s₄ = get-more l (6 * i + 3) (6 * i + 4) 0 (((p ++ (a ∷ [])) ++ (b ∷ [])) ++ (c ∷ [])) (omega arith) (omega arith) s₃ in
      let s₅ = get-more l (6 * i + 4) (6 * i + 5) 0 ((((p ++ (a ∷ [])) ++ (b ∷ [])) ++ (c ∷ [])) ++ (d ∷ [])) (omega arith) (omega arith) s₄ in
      let s₆ = get-more l (6 * i + 5) (6 * (i + 1)) 0 (((((p ++ (a ∷ [])) ++ (b ∷ [])) ++ (c ∷ [])) ++ (d ∷ [])) ++ (e ∷ [])) (omega arith) (omega arith) s₅ in
      s₆ ∙ simp append_assoc

-- one element more copied: `to` holds the first i of `from` and then what it held
pub copy_more : {A : Type 0} (from to₀ : List A) (i : ℕ) (d : A) → i < length from → i < length to₀
    → set (take i from ++ drop i to₀) i (get_or from i d) ≡ take (i + 1) from ++ drop (i + 1) to₀
copy_more from to₀ i d h g =
    rw (add-one i, take-suc from i d h, drop-cons to₀ i d g)
    (set_at (take i from) (get_or to₀ i d) (drop (suc i) to₀) (get_or from i d) i (length-take-le i from (omega arith)) ∙ sym (append_assoc (take i from) (get_or from i d ∷ []) (drop (suc i) to₀)))

pub length-copied : {A : Type 0} (from to₀ : List A) (i : ℕ) → i ≤ length from → i ≤ length to₀ → length (take i from ++ drop i to₀) ≡ length to₀
length-copied from to₀ i h g = rw (length-append (take i from) (drop i to₀), length-take-le i from h, length-drop i to₀) (omega arith)
