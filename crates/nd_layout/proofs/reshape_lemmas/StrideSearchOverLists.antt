-- Steps of the search for strides, over whole lists of axes from the fastest on.
use Rattle.nd_layout.proofs.NamesFromOtherCrates.{ℕ, ◌+◌, ◌-◌, ◌*◌, ◌<◌, ◌≤◌, ◌≡◌, min, List, [], ◌∷◌, ◌++◌, length, get_or, set, take, drop, Bool, true, false, eqb, ◌≢◌, arith, refl, ap, sym, ◌∙◌, append_assoc, ℤ, pos, eq_of_mul-eq-mul_left, mul_comm, mul-pos, le-mul_of_pos_right, drop_more, take_more, take_more_set, take-append-drop, length-take, length-drop, get_or-set_other, size_of, span_of, span_within, IsSeparated, Order, size_of-drop, get_or-set_at, nat_tests}
use Rattle.std.proofs.lemmas.List.{take_all}
use Rattle.nd_layout.specs.RanksAndReshapeStrides.{Serves, ServesRanks, Regroups}
use Rattle.nd_layout.proofs.SeparationByAxes.{EachApart-parts, EachApart-weaker, EachApart-from_separated, separated_from_each, span_within-append, span_of-append}
use Rattle.nd_layout.proofs.reshape_lemmas.RegroupedAxes.{Regroups-trans, Regroups-prefix, both_positive, size_of-append}
use Rattle.nd_layout.proofs.reshape_lemmas.ServingStrides.{serves_rest}
use Rattle.nd_layout.specs.StridesAfterLayoutCalls.{RestsAtOnes}
use Rattle.nd_layout.proofs.reshape_lemmas.AxesFromFastest.{rank_in-below, one_within}

-- the sizes of the lengths before the nth and from it on
pub sizes_at : (ms : List ℕ) (nth : ℕ) → 0 < size_of ms → (0 < size_of (take nth ms)) × (0 < size_of (drop nth ms)) × (size_of (drop nth ms) ≤ size_of ms)
sizes_at ms nth some =
    let a = size_of-append (take nth ms) (drop nth ms) in
    let whole : size_of ms ≡ size_of (take nth ms) * size_of (drop nth ms) = ap size_of (sym (take-append-drop nth ms)) ∙ a in
    let w = both_positive (size_of (take nth ms)) (size_of (drop nth ms)) (omega arith) in
    let l = le-mul_of_pos_right {m = size_of (take nth ms)} (size_of (drop nth ms)) w.0 in
    let c = mul_comm (size_of (drop nth ms)) (size_of (take nth ms)) in
    (w.0, w.1, omega arith)

-- what is to be taken has elements
pub some_to_take : (ms : List ℕ) (nth group : ℕ) → nth < length ms → 0 < size_of ms → group ≡ size_of (drop nth ms) → 0 < get_or ms nth 0 * group
some_to_take ms nth group h some e =
    let w = sizes_at ms nth some in
    let f = size_of-drop ms nth h in
    let v = both_positive (get_or ms nth 0) (size_of (drop (nth + 1) ms)) (omega arith) in
    mul-pos {m = get_or ms nth 0} {n = group} v.0 (omega arith)

-- the group's span is a part of the whole span
pub span_left : (os : List ℕ) (ps : List ℤ) (ms : List ℕ) (ts : List ℤ) (gn : List ℕ) (gs : List ℤ) (nth : ℕ) → length ts ≡ length ms → Regroups os ps (take nth ms ++ gn) (take nth ts ++ gs) → span_of gn gs ≤ span_of os ps
span_left os ps ms ts gn gs nth e g =
    let l : length (take nth ts) ≡ length (take nth ms) = simp length-take (ap (λ n. min nth n) e) in
    let a = span_of-append (take nth ms) (take nth ts) gn gs l in
    omega (arith, g.span)

-- one more new length
pub taken_more : (os : List ℕ) (ps : List ℤ) (ms : List ℕ) (ts ts' : List ℤ) (nth : ℕ) (gn : List ℕ) (gs : List ℤ) (hn : List ℕ) (hs : List ℤ) (t : ℤ) → nth < length ms → length ts ≡ length ms → ts' ≡ set ts nth t → Regroups os ps (take nth ms ++ gn) (take nth ts ++ gs) → Regroups gn gs (get_or ms nth 0 ∷ hn) (t ∷ hs) → Regroups os ps (take (nth + 1) ms ++ hn) (take (nth + 1) ts' ++ hs)
taken_more os ps ms ts ts' nth gn gs hn hs t h e is g step =
    let l : length (take nth ts) ≡ length (take nth ms) = simp length-take (ap (λ n. min nth n) e) in
    let m = get_or ms nth 0 in
    let next = Regroups-trans os ps (take nth ms ++ gn) (take nth ts ++ gs) (take nth ms ++ (m ∷ hn)) (take nth ts ++ (t ∷ hs)) g
    (Regroups-prefix (take nth ms) (take nth ts) gn gs (m ∷ hn) (t ∷ hs) l step) in
    let new : take (nth + 1) ms ++ hn ≡ take nth ms ++ (m ∷ hn) =
    ap (λ xs. xs ++ hn) (take_more ms nth 0 h) ∙ append_assoc (take nth ms) (m ∷ []) hn in
    let new' : take (nth + 1) ts' ++ hs ≡ take nth ts ++ (t ∷ hs) =
    ap (λ xs. take (nth + 1) xs ++ hs) is ∙ ap (λ xs. xs ++ hs) (take_more_set ts nth t (omega arith)) ∙ append_assoc (take nth ts) (t ∷ []) hs in
    rw (new, new') next

-- what is left of the group has the size of the new lengths that are left
pub size_left : (gn hn ms : List ℕ) (nth : ℕ) → nth < length ms → 0 < size_of ms → size_of gn ≡ size_of (drop nth ms) → get_or ms nth 0 * size_of hn ≡ size_of gn → size_of hn ≡ size_of (drop (nth + 1) ms)
size_left gn hn ms nth h some e step =
    let w = sizes_at ms nth some in
    let f = size_of-drop ms nth h in
    let v = both_positive (get_or ms nth 0) (size_of (drop (nth + 1) ms)) (omega arith) in
    eq_of_mul-eq-mul_left (get_or ms nth 0) v.0 (size_of hn) (size_of (drop (nth + 1) ms)) (step ∙ e ∙ f)

-- where nothing serves what is left, nothing serves the whole
pub none_left : (os : List ℕ) (ps : List ℤ) (ms : List ℕ) (ts us : List ℤ) (gn : List ℕ) (gs : List ℤ) (nth : ℕ) → nth < length ms → length ts ≡ length ms → 0 < size_of ms → Regroups os ps (take nth ms ++ gn) (take nth ts ++ gs) → ((vs : List ℤ) → ServesRanks gn gs (get_or ms nth 0 ∷ drop (nth + 1) ms) vs → ⊥) → ServesRanks os ps ms us → ⊥
none_left os ps ms ts us gn gs nth h e some g none serves =
    let w = sizes_at ms nth some in
    let m_parts = take-append-drop nth ms in
    let u_parts = take-append-drop nth us in
    let l : length (take nth ts) ≡ length (take nth ms) = simp length-take (ap (λ n. min nth n) e) in
    let k : length (take nth us) ≡ length (take nth ms) = simp length-take (ap (λ n. min nth n) serves.as_many) in
    let d : length (drop nth us) ≡ length (drop nth ms) = simp length-drop (ap (λ n. n - nth) serves.as_many) in
    let whole : ServesRanks os ps (take nth ms ++ drop nth ms) (take nth us ++ drop nth us) = rw (m_parts, u_parts) serves in
    let rest = serves_rest os ps (take nth ms) (take nth ts) gn gs (drop nth ms) (take nth us) (drop nth us) l k w.0 g whole d in
    none (drop nth us) (rw (drop_more ms nth 0 h) at rest)

-- at the end the front of the axes is the new shape
pub all_taken : (os : List ℕ) (ps : List ℤ) (ms : List ℕ) (ts : List ℤ) (gn : List ℕ) (gs : List ℤ) (nth : ℕ) → length ms ≤ nth → length ts ≡ length ms → Regroups os ps (take nth ms ++ gn) (take nth ts ++ gs) → Regroups os ps (ms ++ gn) (ts ++ gs)
all_taken os ps ms ts gn gs nth h e g =
    let a : take nth ms ≡ ms = take_all nth ms h in
    let b : take nth ts ≡ ts = take_all nth ts (omega arith) in
    rw (a, b) at g

-- the new axes span no more than the old
pub span_all : (os : List ℕ) (ps : List ℤ) (ms : List ℕ) (ts : List ℤ) (gn : List ℕ) (gs : List ℤ) → length ts ≡ length ms → Regroups os ps (ms ++ gn) (ts ++ gs) → span_of ms ts ≤ span_of os ps
span_all os ps ms ts gn gs e g = let a = span_of-append ms ts gn gs e in omega (arith, g.span)

-- the front of separated axes is separated
pub IsSeparated-front : (cs : List ℕ) (ds : List ℤ) (ns : List ℕ) (ss : List ℤ) → length ds ≡ length cs → IsSeparated (cs ++ ns) (ds ++ ss) → IsSeparated cs ds
IsSeparated-front cs ds ns ss e apart =
    let W : ℕ → ℕ = λ g. span_within g (cs ++ ns) (ds ++ ss) in
    let each = EachApart-parts W cs ds ns ss e (EachApart-from_separated (cs ++ ns) (ds ++ ss) apart) in
    separated_from_each cs ds e
    (EachApart-weaker (λ g. span_within g cs ds) W (λ g. span_within g cs ds) cs ds (λ g. omega arith) (λ n x _ _ p. let a = span_within-append x cs ds ns ss e in omega arith) each.0)

-- and are separated where the old are
pub separated_all : (os : List ℕ) (ps : List ℤ) (ms : List ℕ) (ts : List ℤ) (gn : List ℕ) (gs : List ℤ) → length ts ≡ length ms → Regroups os ps (ms ++ gn) (ts ++ gs) → IsSeparated os ps → IsSeparated ms ts
separated_all os ps ms ts gn gs e g apart = IsSeparated-front ms ts gn gs e (g.apart [] [] refl apart)

-- the new axes so far of length 1 have stride 0
abbrev pub RestsBelow : ℕ → List ℕ → List ℤ → Type 0
RestsBelow nth ms ts = (k : ℕ) → k < nth → get_or ms k 0 ≡ 1 → get_or ts k (pos 0) ≡ pos 0

pub rests_more : (nth : ℕ) (ms : List ℕ) (ts ts' : List ℤ) (t : ℤ) → nth < length ts → ts' ≡ set ts nth t → (get_or ms nth 0 ≡ 1 → t ≡ pos 0) → RestsBelow nth ms ts → RestsBelow (nth + 1) ms ts'
rests_more nth ms ts ts' t on put here rests k below one = at (eqb k nth) refl
  where
    at : (b : Bool) → eqb k nth ≡ b → get_or ts' k (pos 0) ≡ pos 0
    at true e =
        let same : k ≡ nth = grind (arith, nat_tests, e) in
        ap (λ l. get_or l k (pos 0)) put ∙ (get_or-set_at ts nth k t (pos 0) same on ∙ here (ap (λ n. get_or ms n 0) (sym same) ∙ one))
    at false e =
        let other : k ≢ nth = grind (arith, nat_tests, e) in
        let less : k < nth = grind (arith, nat_tests, e, below) in
        ap (λ l. get_or l k (pos 0)) put ∙ (get_or-set_other ts nth k t (pos 0) other ∙ rests k less one)

pub rests_all : (nth : ℕ) (ms : List ℕ) (ts : List ℤ) → length ts ≡ length ms → length ms ≤ nth → RestsBelow nth ms ts → RestsAtOnes ms ts
rests_all nth ms ts e done rests a one = rests a (let on = one_within ms a one in omega (arith, done, on)) one

-- any strides serve a shape without elements
pub Serves-empty : (o : Order) (ns : List ℕ) (ss : List ℤ) (ms : List ℕ) (ts : List ℤ) → size_of ms ≡ 0 → length ts ≡ length ms → Serves o ns ss ms ts
Serves-empty o ns ss ms ts none e = record {
  as_many = e;
  same_displacement = λ i j h q same. absurd (omega (arith, rank_in-below o ms j q));
}
