-- A squeeze, axis by axis from the last to the first, is a layout step.
use Rattle.nd_layout.proofs.NamesFromOtherCrates.{◌≡◌, ℕ, zero, suc, ◌<◌, ◌≤◌, Bool, true, false, cond, not, ◌&&◌, ◌||◌, eqb, ltb, List, [], ◌∷◌, length, map, get_or, replicate, ℤ, pos, ◌+ℤ◌, ◌*◌, refl, ap, sym, ◌∙◌, subst, arith, remove, insert, lt-ltb, length-map, get_or-map, length-in_box, isnt_one, all_one, stays, kept_of, spread_over, goes_at, shape_squeezed_at, index_squeezed_at, size_of, displacement_of, indexed_index, displacement_of-origin, ints, length-remove}
use Rattle.nd_layout.specs.ValidLayoutsAndSteps.{IsStep}
use Rattle.nd_layout.specs.StridesAfterLayoutCalls.{strides_squeezed_at}
use Rattle.nd_layout.proofs.AxisRemovedOrInserted.{size_of-removed}
use Rattle.nd_layout.proofs.steps.StepsKeepValidLayouts.{step_then, step_by, origin_in_box}
use Rattle.nd_layout.proofs.steps.IndexAxisAndInsertAxis.{same_is_step}

-- the axes below k stay whatever they are
abbrev pub opened : ℕ → List Bool → List Bool
opened zero bs = bs
opened (suc k) [] = []
opened (suc k) (b ∷ bs) = true ∷ opened k bs

pub length-stays : (ns : List ℕ) → length (stays ns) ≡ length ns
length-stays [] = refl
length-stays (n ∷ ns) = ap suc (length-map ns isnt_one)

-- where all are opened, nothing changes
kept-opened : {A : Type 0} (bs : List Bool) (ns : List A) → length bs ≡ length ns → kept_of (opened (length ns) bs) ns ≡ ns
kept-opened [] [] e = refl
kept-opened [] (n ∷ ns) e = absurd (omega arith)
kept-opened (b ∷ bs) [] e = refl
kept-opened (b ∷ bs) (n ∷ ns) e = ap (λ l. n ∷ l) (kept-opened bs ns (omega (arith, e)))

spread-opened : (bs : List Bool) (i : List ℕ) → length bs ≡ length i → spread_over (opened (length i) bs) i ≡ i
spread-opened [] [] e = refl
spread-opened [] (i ∷ is) e = absurd (omega arith)
spread-opened (b ∷ bs) [] e = absurd (omega arith)
spread-opened (b ∷ bs) (i ∷ is) e = ap (λ l. i ∷ l) (spread-opened bs is (omega (arith, e)))

-- an axis that stays anyhow
opened-stays : (k : ℕ) (bs : List Bool) → get_or bs k true ≡ true → opened (suc k) bs ≡ opened k bs
opened-stays zero [] e = refl
opened-stays zero (b ∷ bs) e = ap (λ c. c ∷ bs) (sym e)
opened-stays (suc k) [] e = refl
opened-stays (suc k) (b ∷ bs) e = ap (λ l. true ∷ l) (opened-stays k bs e)

-- an axis that goes
kept-goes : {A : Type 0} (k : ℕ) (bs : List Bool) (ns : List A) → get_or bs k true ≡ false → remove (kept_of (opened (suc k) bs) ns) k ≡ kept_of (opened k bs) ns
kept-goes zero [] ns e = absurd cc
kept-goes zero (true ∷ bs) ns e = absurd cc
kept-goes zero (false ∷ bs) [] e = refl
kept-goes zero (false ∷ bs) (n ∷ ns) e = refl
kept-goes (suc k) [] ns e = absurd cc
kept-goes (suc k) (b ∷ bs) [] e = refl
kept-goes (suc k) (b ∷ bs) (n ∷ ns) e = ap (λ l. n ∷ l) (kept-goes k bs ns e)

spread-goes : (k : ℕ) (bs : List Bool) (i : List ℕ) → get_or bs k true ≡ false → k ≤ length i → spread_over (opened (suc k) bs) (insert i k 0) ≡ spread_over (opened k bs) i
spread-goes zero [] i e h = absurd cc
spread-goes zero (true ∷ bs) i e h = absurd cc
spread-goes zero (false ∷ bs) i e h = refl
spread-goes (suc k) [] i e h = absurd cc
spread-goes (suc k) (b ∷ bs) [] e h = absurd (omega arith)
spread-goes (suc k) (b ∷ bs) (i ∷ is) e h = ap (λ l. i ∷ l) (spread-goes k bs is e (omega arith))

kept-at : (k : ℕ) (bs : List Bool) (ns : List ℕ) → length bs ≡ length ns → k < length ns → get_or (kept_of (opened (suc k) bs) ns) k 0 ≡ get_or ns k 0
kept-at k bs [] e h = absurd (omega arith)
kept-at k [] (n ∷ ns) e h = absurd (omega arith)
kept-at zero (b ∷ bs) (n ∷ ns) e h = refl
kept-at (suc k) (b ∷ bs) (n ∷ ns) e h = kept-at k bs ns (omega (arith, e)) (omega (arith, h))

kept-long : (k : ℕ) (bs : List Bool) (ns : List ℕ) → length bs ≡ length ns → k < length ns → k < length (kept_of (opened (suc k) bs) ns)
kept-long k bs [] e h = absurd (omega arith)
kept-long k [] (n ∷ ns) e h = absurd (omega arith)
kept-long zero (b ∷ bs) (n ∷ ns) e h = omega arith
kept-long (suc k) (b ∷ bs) (n ∷ ns) e h = let rest = kept-long k bs ns (omega (arith, e)) (omega (arith, h)) in omega (arith, rest)

kept-front : (k : ℕ) (bs : List Bool) (ns : List ℕ) → length bs ≡ length ns → k < length ns → k ≤ length (kept_of (opened k bs) ns)
kept-front zero bs ns e h = omega arith
kept-front (suc k) bs [] e h = absurd (omega arith)
kept-front (suc k) [] (n ∷ ns) e h = absurd (omega arith)
kept-front (suc k) (b ∷ bs) (n ∷ ns) e h = let rest = kept-front k bs ns (omega (arith, e)) (omega (arith, h)) in omega (arith, rest)

-- some axis is kept exactly where one has another length than 1
some_kept : (ns : List ℕ) → ltb 1 (suc (length (kept_of (map isnt_one ns) ns))) ≡ not (all_one ns)
some_kept [] = refl
some_kept (n ∷ ns) = at (eqb n 1) (some_kept ns)
  where
    at : (b : Bool) → ltb 1 (suc (length (kept_of (map isnt_one ns) ns))) ≡ not (all_one ns) → ltb 1 (suc (length (kept_of (not b ∷ map isnt_one ns) (n ∷ ns)))) ≡ not (b && all_one ns)
    at true rest = rest
    at false rest = lt-ltb 1 (suc (suc (length (kept_of (map isnt_one ns) ns)))) (omega arith)

-- the code's test tells which axes stay
goes_is : (ns : List ℕ) (k : ℕ) → k < length ns → goes_at (kept_of (opened (suc k) (stays ns)) ns) k ≡ not (get_or (stays ns) k true)
goes_is [] k h = absurd (omega arith)
goes_is (n ∷ ns) zero h = ap (λ b. eqb n 1 && b) (some_kept ns) ∙ at (eqb n 1) (all_one ns)
  where
    at : (a b : Bool) → (a && not b) ≡ not (not a || b)
    at true true = refl
    at true false = refl
    at false b = refl
goes_is (n ∷ ns) (suc k) h =
    let bs = map isnt_one ns in
    let within : k < length ns = omega (arith, h) in
    let long = length-map ns isnt_one in
    let same = kept-at k bs ns long within in
    let more : k < length (kept_of (opened (suc k) bs) ns) = kept-long k bs ns long within in
    let other = get_or-map isnt_one ns k 0 true within in
    rw (same, other, others (length (kept_of (opened (suc k) bs) ns)) k more) (twice (eqb (get_or ns k 0) 1))
  where
    others : (l k : ℕ) → k < l → ltb 1 (suc l) ≡ true
    others zero k h = absurd (omega arith)
    others (suc l) k h = lt-ltb 1 (suc (suc l)) (omega arith)

    twice : (b : Bool) → (b && true) ≡ not (not b)
    twice true = refl
    twice false = refl

-- the place of index 0 is the offset, so the offset stays
zeros_inserted : (n a : ℕ) → a ≤ n → insert {X = ℕ} (replicate n 0) a 0 ≡ replicate (suc n) 0
zeros_inserted n zero h = refl
zeros_inserted zero (suc a) h = absurd (omega arith)
zeros_inserted (suc n) (suc a) h = ap (λ l. 0 ∷ l) (zeros_inserted n a (omega (arith, h)))

same_offset : (p q : ℕ) (y z : ℤ) → y ≡ pos 0 → z ≡ pos 0 → pos p +ℤ y ≡ pos q +ℤ z → p ≡ q
same_offset p q y z e f h = let sums : pos p +ℤ pos 0 ≡ pos q +ℤ pos 0 = rw (e, f) at h in omega (arith, ints, sums)

pub squeezed_offset : (offset : ℕ) (ns : List ℕ) (ss : List ℤ) (a offset' : ℕ) (ss' : List ℤ) → a < length ns → get_or ns a 0 ≡ 1 → (size_of ns ≡ 0 → offset' ≡ offset) → IsStep offset ns ss offset' (remove ns a) ss' (indexed_index a 0) → offset' ≡ offset
squeezed_offset offset ns ss a offset' ss' on one empty step = at (size_of ns) refl
  where
    rest : size_of ns ≡ 1 * size_of (remove ns a)
    rest = size_of-removed ns a on ∙ ap (λ n. n * size_of (remove ns a)) one

    at : (n : ℕ) → size_of ns ≡ n → offset' ≡ offset
    at zero e = empty e
    at (suc n) e =
        let m = length (remove ns a) in
        let here = step.same (replicate m 0) (origin_in_box (remove ns a) (omega (arith, e, rest))) in
        let long = length-remove ns a on in
        same_offset offset' offset (displacement_of ss' (replicate m 0)) (displacement_of ss (insert (replicate m 0) a 0)) (displacement_of-origin ss' m)
        (ap (displacement_of ss) (zeros_inserted m a (omega (arith, on, long))) ∙ displacement_of-origin ss (suc m)) here

-- the axes from k on squeezed
pub record IsSqueezedFrom (offset : ℕ) (ns : List ℕ) (ss : List ℤ) (k new_offset : ℕ) (new_ns : List ℕ) (new_ss : List ℤ) : Type 0 where
  pub few : k ≤ length ns
  pub lengths : new_ns ≡ kept_of (opened k (stays ns)) ns
  pub step : IsStep offset ns ss new_offset new_ns new_ss (spread_over (opened k (stays ns)))
  pub strides : new_ss ≡ kept_of (opened k (stays ns)) ss
  pub unmoved : new_offset ≡ offset

pub from_axis : {offset new_offset axis k : ℕ} {ns new_ns : List ℕ} {ss new_ss : List ℤ} → axis ≡ k → IsSqueezedFrom offset ns ss axis new_offset new_ns new_ss → IsSqueezedFrom offset ns ss k new_offset new_ns new_ss
from_axis e so_far = rw e at so_far

module _ (offset : ℕ) (ns : List ℕ) (ss : List ℤ) where
  pub squeezed_none : (k new_offset : ℕ) (new_ns : List ℕ) (new_ss : List ℤ) → length ss ≡ length ns → k ≡ length ns → new_offset ≡ offset → new_ns ≡ ns → new_ss ≡ ss → IsSqueezedFrom offset ns ss k new_offset new_ns new_ss
  squeezed_none k new_offset new_ns new_ss many count f l s =
      rw (count, f, l, s)
      (record {
        few = omega arith;
        lengths = sym (kept-opened (stays ns) ns (length-stays ns));
        step = step_by (spread_over (opened (length ns) (stays ns)))
            (λ i h. sym (all i (length-in_box ns i h))) (same_is_step offset ns ss many);
        strides = sym (subst (λ n. kept_of (opened n (stays ns)) ss ≡ ss) many (kept-opened (stays ns) ss (length-stays ns ∙ sym many)));
        unmoved = refl;
      })
    where
      all : (i : List ℕ) → length i ≡ length ns → spread_over (opened (length ns) (stays ns)) i ≡ i
      all i e = subst (λ n. spread_over (opened n (stays ns)) i ≡ i) e (spread-opened (stays ns) i (length-stays ns ∙ sym e))

  module _ (k : ℕ) (f' : ℕ) (ns' : List ℕ) (ss' : List ℤ) (so_far : IsSqueezedFrom offset ns ss (suc k) f' ns' ss') where
    within : k < length ns
    within = omega (arith, so_far.few)

    pub squeezed_on : k < length ns'
    squeezed_on = subst (λ l. k < length l) (sym so_far.lengths) (kept-long k (stays ns) ns (length-stays ns) within)

    pub squeezed_more : (f'' : ℕ) (ns'' : List ℕ) (ss'' : List ℤ) → ns'' ≡ shape_squeezed_at ns' k → ss'' ≡ strides_squeezed_at ns' ss' k → f'' ≡ f' → IsStep f' ns' ss' f'' ns'' ss'' (index_squeezed_at ns' k) → IsSqueezedFrom offset ns ss k f'' ns'' ss''
    squeezed_more f'' ns'' ss'' shape stepped rests step = at (get_or (stays ns) k true) refl
      where
        tested : goes_at ns' k ≡ not (get_or (stays ns) k true)
        tested = ap (λ l. goes_at l k) so_far.lengths ∙ goes_is ns k within

        at : (b : Bool) → get_or (stays ns) k true ≡ b → IsSqueezedFrom offset ns ss k f'' ns'' ss''
        at true stay =
            let no : goes_at ns' k ≡ false = tested ∙ ap not stay in
            let same = opened-stays k (stays ns) stay in
            record {
              few = omega (arith, within);
              lengths = shape ∙ (ap (λ b. cond b (remove ns' k) ns') no ∙ (so_far.lengths ∙ ap (λ bs. kept_of bs ns) same));
              step = step_by (spread_over (opened k (stays ns)))
                  (λ i h. ap (λ b. spread_over (opened (suc k) (stays ns)) (cond b (insert i k 0) i)) no ∙ ap (λ bs. spread_over bs i) same)
                  (step_then so_far.step step);
              strides = stepped ∙ (ap (λ b. cond b (remove ss' k) ss') no ∙ (so_far.strides ∙ ap (λ bs. kept_of bs ss) same));
              unmoved = rests ∙ so_far.unmoved;
            }
        at false gone =
            let yes : goes_at ns' k ≡ true = tested ∙ ap not gone in
            let left : ns'' ≡ kept_of (opened k (stays ns)) ns = shape ∙ (ap (λ b. cond b (remove ns' k) ns') yes ∙ (ap (λ l. remove l k) so_far.lengths ∙ kept-goes k (stays ns) ns gone)) in
            record {
              few = omega (arith, within);
              lengths = left;
              step = step_by (spread_over (opened k (stays ns)))
                  (λ i h.
                  let counted : length i ≡ length ns'' = length-in_box ns'' i h in
                  let front = kept-front k (stays ns) ns (length-stays ns) within in
                  ap (λ b. spread_over (opened (suc k) (stays ns)) (cond b (insert i k 0) i)) yes
                  ∙ spread-goes k (stays ns) i gone (omega (arith, counted, ap length left, front)))
                  (step_then so_far.step step);
              strides = stepped ∙ (ap (λ b. cond b (remove ss' k) ss') yes ∙ (ap (λ l. remove l k) so_far.strides ∙ kept-goes k (stays ns) ss gone));
              unmoved = rests ∙ so_far.unmoved;
            }
