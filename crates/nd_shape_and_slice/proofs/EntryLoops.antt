-- One entry of a list read or put, found by a look at each.
use Rattle.nd_shape_and_slice.proofs.NamesFromOtherCrates.{◌≡◌, ℕ, ◌+◌, ◌<◌, ◌≤◌, List, length, slice_set, get_or, refl, ap, sym, ◌∙◌, arith, ⊎_elim, cases_lt, set_past, get_or_default}

-- the entry is put if it is among the first k, and nothing else is changed
pub record IsPutAmong {A : Type 0} (old new : List A) (at : ℕ) (value : A) (k : ℕ) : Type 0 where
  pub put : at < k → new ≡ slice_set old at value
  pub kept : k ≤ at → new ≡ old

pub none_put : {A : Type 0} (xs : List A) (at : ℕ) (v : A) → IsPutAmong xs xs at v 0
none_put xs at v = record { put = λ h. absurd (omega (arith, h)); kept = λ h. refl }

pub put_here : {A : Type 0} (old new : List A) (at : ℕ) (v : A) (k : ℕ) → k ≡ at → IsPutAmong old new at v k → IsPutAmong old (slice_set new k v) at v (k + 1)
put_here old new at v k here so_far =
    record {
      put = λ h. rw (here) (ap (λ xs. slice_set xs at v) (so_far.kept (omega (arith, here))));
      kept = λ h. absurd (omega (arith, h, here));
    }

pub put_elsewhere : {A : Type 0} (old new : List A) (at : ℕ) (v : A) (k : ℕ) → (k ≡ at → ⊥) → IsPutAmong old new at v k → IsPutAmong old new at v (k + 1)
put_elsewhere old new at v k other so_far =
    record { put = λ h. so_far.put (omega (arith, h, other)); kept = λ h. so_far.kept (omega (arith, h)) }

pub put_all : {A : Type 0} (old new : List A) (at : ℕ) (v : A) (k : ℕ) → length old ≤ k → IsPutAmong old new at v k → new ≡ slice_set old at v
put_all old new at v k all so_far =
    ⊎_elim (λ (h : at < k). so_far.put h) (λ (h : k ≤ at). so_far.kept h ∙ sym (set_past old at v (omega (arith, h, all)))) (cases_lt at k)

-- the entry is found if it is among the first k
abbrev pub IsFoundAmong : {A : Type 0} → List A → ℕ → A → ℕ → Type 0
IsFoundAmong {A} xs at entry k = at < k → (d : A) → entry ≡ get_or xs at d

pub found_here : {A : Type 0} (xs : List A) (at : ℕ) (other entry : A) (k : ℕ) → k < length xs → k ≡ at → entry ≡ get_or xs k other → IsFoundAmong xs at entry (k + 1)
found_here xs at other entry k within here is h d = is ∙ (get_or_default xs k other d within ∙ ap (λ i. get_or xs i d) here)

pub found_before : {A : Type 0} (xs : List A) (at : ℕ) (entry : A) (k : ℕ) → (k ≡ at → ⊥) → IsFoundAmong xs at entry k → IsFoundAmong xs at entry (k + 1)
found_before xs at entry k other so_far h = so_far (omega (arith, h, other))
