-- The values of items that come piece by piece.
use Rattle.std.proofs.Common.{◌≡◌, ◌∙◌, ◌<◌, ◌≤◌, ◌+◌, ◌-◌, ◌*◌, ◌/◌, ◌^◌, min, ◌⊎◌, inl, inr, ⊎_elim, Bool, true, false, leb, ltb, append_assoc, append-nil, mul-le-mul_right, take-take, ℕ, zero, suc, List, [], ◌∷◌, ◌++◌, length, take, take_all, drop, refl, sym, ap, subst, arith}
use Rattle.std.proofs.lemmas.List.{length-append, length-drop, take-append-le, drop-append-le, drop-drop, drop-take}
use Rattle.std.proofs.lemmas.Bool.{leb-true, leb-false, ltb-true, ltb-false}
use Rattle.std.proofs.Math.Nat.{div-mul-le_self, lt-div-mul-add, min-eq_left, min-eq_right}
use Rattle.nd_npy.specs.ItemBytes.{values_in}
use Rattle.std.specs.Prelude.{Option, None, Some, IfSome, OnOk, IfErr, Result, Ok, Err, ⊤}
use Rattle.std.specs.Io.KnownBytes.{prepend_known, Keeps, IsAtEnd}
use Rattle.nd_npy.specs.declared.errors.ReadNpyError.TheVariants.{WrongSize}
use Rattle.nd_npy.specs.declared.errors.ReadNpyFromError.{ReadNpyFromError}
use Rattle.nd_npy.specs.declared.errors.ReadNpyFromError.TheVariants.{File}
use Rattle.nd_npy.specs.StreamReadsAndWrites.{TakesItems, GivesValues, IsValuesCause}

module _ {A : Type 0} (value : List ℕ → A) (size : ℕ) where
  -- the values of items at the front of some bytes
  one_less : (k n : ℕ) → suc k * size ≤ n → (size ≤ n) × (k * size ≤ n - size)
  one_less k n h = let product : suc k * size ≡ size + k * size = grind arith in (omega (arith, h, product), omega (arith, h, product))

  -- the values of items at the front, whatever follows, and then those of what follows
  pub values_split : (k n : ℕ) (bytes more : List ℕ) → k * size ≤ length bytes → values_in value size (k + n) (bytes ++ more) ≡ values_in value size k bytes ++ values_in value size n (drop (k * size) bytes ++ more)
  values_split zero n bytes more h =
      let none : 0 * size ≡ 0 = omega arith in
      let same : zero + n ≡ n = omega arith in
      rw (none, same) refl
  values_split (suc k) n bytes more h =
      let parts = one_less k (length bytes) h in
      let sum : suc k + n ≡ suc (k + n) = omega arith in
      let product : k * size + size ≡ suc k * size = grind arith in
      let others = values_split k n (drop size bytes) more (omega (arith, parts.1, length-drop size bytes)) in
      let further : drop (k * size) (drop size bytes) ≡ drop (suc k * size) bytes = drop-drop (k * size) size bytes ∙ ap (λ m. drop m bytes) (grind arith) in
      ap (λ m. values_in value size m (bytes ++ more)) sum
      ∙ ap (λ l. value l ∷ values_in value size (k + n) (drop size (bytes ++ more))) (take-append-le size bytes more parts.0)
      ∙ ap (λ l. value (take size bytes) ∷ values_in value size (k + n) l) (drop-append-le size bytes more parts.0)
      ∙ ap (λ l. value (take size bytes) ∷ l) others
      ∙ ap (λ l. value (take size bytes) ∷ (values_in value size k (drop size bytes) ++ values_in value size n (l ++ more))) further

  -- the values of the first items alone
  pub values_of_front : (k : ℕ) (bytes : List ℕ) → k * size ≤ length bytes → values_in value size k (take (k * size) bytes) ≡ values_in value size k bytes
  values_of_front zero bytes h = refl
  values_of_front (suc k) bytes h =
      let parts = one_less k (length bytes) h in
      let product : suc k * size ≡ size + k * size = grind arith in
      let first : take size (take (suc k * size) bytes) ≡ take size bytes = take-take size (suc k * size) bytes (omega (arith, product)) in
      let behind : drop size (take (suc k * size) bytes) ≡ take (k * size) (drop size bytes) = ap (λ m. drop size (take m bytes)) product ∙ drop-take size (k * size) bytes in
      let others = values_of_front k (drop size bytes) (omega (arith, parts.1, length-drop size bytes)) in
      ap (λ l. value l ∷ values_in value size k (drop size (take (suc k * size) bytes))) first ∙ ap (λ l. value (take size bytes) ∷ values_in value size k l) behind ∙ ap (λ l. value (take size bytes) ∷ l) others

  -- as many items as there are, up to `count` in all
  by_least : (many room k : ℕ) → k ≡ min many room → (k ≤ many) × (k ≤ room) × ((k ≡ many) ⊎ (k ≡ room))
  by_least many room k is = by_test (leb many room) refl
    where
      by_test : (t : Bool) → leb many room ≡ t → (k ≤ many) × (k ≤ room) × ((k ≡ many) ⊎ (k ≡ room))
      by_test true e =
          let low : many ≤ room = leb-true _ _ e in
          let same : k ≡ many = is ∙ min-eq_left low in
          (omega (arith, same), omega (arith, same, low), inl same)
      by_test false e =
          let low : room ≤ many = omega (arith, leb-false _ _ e) in
          let same : k ≡ room = is ∙ min-eq_right low in
          (omega (arith, same, low), omega (arith, same), inr same)

  few_left : (n k : ℕ) → 0 < size → k ≡ n / size → n - k * size < size
  few_left n k some is =
      let within = div-mul-le_self n size in
      let next = lt-div-mul-add {a = n} {b = size} some in
      let same : k * size ≡ n / size * size = ap (λ m. m * size) is in
      omega (arith, within, next, same)

  whole_items : (n k : ℕ) → k ≤ n / size → k * size ≤ n
  whole_items n k h =
      let product : k * size ≤ n / size * size = mul-le-mul_right size h in
      omega (arith, product, div-mul-le_self n size)

  -- the bytes of the items that are taken are among those that wait
  pub taken_fits : (n room k : ℕ) → k ≡ min (n / size) room → k * size ≤ n
  taken_fits n room k is = whole_items n k (by_least (n / size) room k is).0

  pub items_taken : (count before after k : ℕ) (old new : List A) (bytes left : List ℕ) → 0 < size → before ≤ count → k ≡ min (length bytes / size) (count - before)
      → new ≡ old ++ values_in value size k (take (k * size) bytes) → after ≡ before + k → left ≡ drop (k * size) bytes → TakesItems value size count old new before after bytes left
  items_taken count before after k old new bytes left some few least values counted rest =
      let parts = by_least (length bytes / size) (count - before) k least in
      let within = whole_items (length bytes) k parts.0 in
      record {
        taken = k;
        within = within;
        values = values ∙ ap (λ l. old ++ l) (values_of_front k bytes within);
        after_taken = counted;
        rest = rest;
        at_most_count = omega (arith, counted, parts.1, few);
        else_short = λ below. ⊎_elim (λ is. left_short (few_left (length bytes) k some is)) (λ is. absurd (omega (arith, is, below, counted))) parts.2;
      }
    where
      left_short : length bytes - k * size < size → length left < size
      left_short short = let long : length left ≡ length bytes - k * size = ap length rest ∙ length-drop (k * size) bytes in omega (arith, long, short)

-- ---- what is done and what is ahead

module _ {A : Type 0} (value : List ℕ → A) (size count : ℕ) where
  -- the values so far, and those of the bytes that are ahead, are those of all bytes, if these are known
  pub StillAhead : Option (List ℕ) → List A → ℕ → Option (List ℕ) → Type 0
  StillAhead None xs taken ahead = ⊤
  StillAhead (Some bytes) xs taken None = ⊥
  StillAhead (Some bytes) xs taken (Some ahead) = (xs ++ values_in value size (count - taken) ahead ≡ values_in value size count bytes) × (taken * size + length ahead ≡ length bytes)

  pub ahead_first : (bytes : Option (List ℕ)) → StillAhead bytes [] 0 bytes
  unfolding StillAhead
  ahead_first None = tt
  ahead_first (Some bytes) = (ap (λ k. values_in value size k bytes) all, omega arith)
    where
      all : count - 0 ≡ count
      all = omega arith

  pub ahead_read : (whole old new : Option (List ℕ)) (xs : List A) (taken : ℕ) → Keeps old new → StillAhead whole xs taken old → StillAhead whole xs taken new
  unfolding StillAhead
  ahead_read None old new xs taken keeps is = tt
  ahead_read (Some bytes) None new xs taken keeps is = absurd is
  ahead_read (Some bytes) (Some ys) None xs taken keeps is = absurd keeps
  ahead_read (Some bytes) (Some ys) (Some zs) xs taken keeps is = subst (λ l. (xs ++ values_in value size (count - taken) l ≡ values_in value size count bytes) × (taken * size + length l ≡ length bytes)) (sym keeps) is

  pub ahead_taken : (whole rest : Option (List ℕ)) (old new : List A) (before after : ℕ) (bytes left : List ℕ) → TakesItems value size count old new before after bytes left
      → StillAhead whole old before (prepend_known bytes rest) → StillAhead whole new after (prepend_known left rest)
  unfolding StillAhead
  ahead_taken None rest old new before after bytes left takes is = tt
  ahead_taken (Some bytes0) None old new before after bytes left takes is = absurd is
  ahead_taken (Some bytes0) (Some rest) old new before after bytes left takes is =
      let k = takes.taken in
      let counted : count - before ≡ k + (count - after) = omega (arith, takes.after_taken, takes.at_most_count) in
      let split = values_split value size k (count - after) bytes rest takes.within in
      let product : after * size ≡ before * size + k * size = ap (λ m. m * size) takes.after_taken ∙ grind arith in
      let long = length-append bytes rest in
      let shorter = length-append left rest in
      let cut : length left ≡ length bytes - k * size = ap length takes.rest ∙ length-drop (k * size) bytes in (
        ap (λ l. l ++ values_in value size (count - after) (left ++ rest)) takes.values
            ∙ append_assoc old (values_in value size k bytes) (values_in value size (count - after) (left ++ rest))
            ∙ ap (λ l. old ++ (values_in value size k bytes ++ values_in value size (count - after) (l ++ rest))) takes.rest
            ∙ ap (λ l. old ++ l) (sym split)
            ∙ ap (λ m. old ++ values_in value size m (bytes ++ rest)) (sym counted)
            ∙ is.0,
        omega (arith, product, long, shorter, cut, takes.within, is.1),
      )

  -- ---- at the end of the bytes
  pub all_taken : (taken left : ℕ) → taken ≤ count → (taken < count → left < size) → taken * size + left ≡ count * size → taken ≡ count
  all_taken taken left few short is = by_test (ltb taken count) refl
    where
      by_test : (t : Bool) → ltb taken count ≡ t → taken ≡ count
      by_test true e =
          let below : taken < count = ltb-true _ _ e in
          let more : suc taken * size ≤ count * size = mul-le-mul_right size below in
          let product : suc taken * size ≡ size + taken * size = grind arith in
          absurd (omega (arith, more, product, short below, is))
      by_test false e = omega (arith, few, ltb-false _ _ e)

  module _ (whole rest : Option (List ℕ)) (xs : List A) (taken : ℕ) (pending : List ℕ) (is : StillAhead whole xs taken (prepend_known pending rest)) (ended : IsAtEnd rest) where
    -- how many bytes there were
    pub bytes_counted : IfSome whole (λ bytes. taken * size + length pending ≡ length bytes)
    unfolding StillAhead
    bytes_counted = by_known whole rest is ended
      where
        by_known : (whole rest : Option (List ℕ)) → StillAhead whole xs taken (prepend_known pending rest) → IsAtEnd rest → IfSome whole (λ bytes. taken * size + length pending ≡ length bytes)
        by_known None rest is ended = tt
        by_known (Some bytes) None is ended = absurd is
        by_known (Some bytes) (Some ys) is ended =
            let none : length (pending ++ ys) ≡ length pending = ap (λ l. length (pending ++ l)) ended ∙ ap length (append-nil pending) in
            omega (arith, is.1, none)

    pub values_whole : taken ≤ count → (taken < count → length pending < size) → taken * size + length pending ≡ count * size → IfSome whole (λ bytes. (xs ≡ values_in value size count bytes) × (length bytes ≡ count * size))
    unfolding StillAhead
    values_whole few short same = by_known whole rest is ended
      where
        none_left : count - taken ≡ 0
        none_left = let all = all_taken taken (length pending) few short same in omega (arith, all)

        by_known : (whole rest : Option (List ℕ)) → StillAhead whole xs taken (prepend_known pending rest) → IsAtEnd rest → IfSome whole (λ bytes. (xs ≡ values_in value size count bytes) × (length bytes ≡ count * size))
        by_known None rest is ended = tt
        by_known (Some bytes) None is ended = absurd is
        by_known (Some bytes) (Some ys) is ended =
            let none : length (pending ++ ys) ≡ length pending = ap (λ l. length (pending ++ l)) ended ∙ ap length (append-nil pending) in
            (sym (append-nil xs) ∙ ap (λ m. xs ++ values_in value size m (pending ++ ys)) (sym none_left) ∙ is.0, omega (arith, is.1, none, same))

  -- what is given at the end
  module _ (whole : Option (List ℕ)) (xs : List A) (sum : ℕ) (counted : IfSome whole (λ bytes. sum ≡ length bytes))
      (enough : sum ≡ count * size → IfSome whole (λ bytes. (xs ≡ values_in value size count bytes) × (length bytes ≡ count * size))) where
    pub values_given : {X : Type 0} (r : Result X ReadNpyFromError) → OnOk r (sum ≡ count * size) → IfErr r (λ e. e ≡ File (WrongSize (count * size) sum)) → IfErr r (λ _. ¬ (sum ≡ count * size)) → IfSome whole (λ bytes. GivesValues value size count bytes xs r)
    values_given (Ok x) fits refused differs = enough fits
    values_given (Err e) fits refused differs = subst (λ d. IfSome whole (λ bytes. IsValuesCause size count bytes d)) (sym refused) (by_known whole counted)
      where
        by_known : (whole : Option (List ℕ)) → IfSome whole (λ bytes. sum ≡ length bytes) → IfSome whole (λ bytes. IsValuesCause size count bytes (File (WrongSize (count * size) sum)))
        by_known None counted = tt
        by_known (Some bytes) counted = (refl, counted, differs)

  pub values_counted : (taken left : ℕ) → taken ≤ count → (taken < count → left < size) → {X : Type 0} (r : Result X ReadNpyFromError) → OnOk r (taken * size + left ≡ count * size) → OnOk r (taken ≡ count)
  values_counted taken left few short (Ok x) fits = all_taken taken left few short fits
  values_counted taken left few short (Err e) fits = tt

  -- each turn takes the bytes ahead further
  pub turn_smaller : (old new : List A) (before after : ℕ) (bytes left : List ℕ) (waiting waited more : ℕ) → TakesItems value size count old new before after bytes left → waiting ≡ length bytes → waited ≡ length left → waited < more → more < 2 ^ 63 → count * size < 2 ^ 63
      → 2 ^ 65 - (after * size + more) < 2 ^ 65 - (before * size + waiting)
  turn_smaller old new before after bytes left waiting waited more takes first then grown low fits =
      let k = takes.taken in
      let product : after * size ≡ before * size + k * size = ap (λ m. m * size) takes.after_taken ∙ grind arith in
      let cut : length left ≡ length bytes - k * size = ap length takes.rest ∙ length-drop (k * size) bytes in
      let most : after * size ≤ count * size = mul-le-mul_right size takes.at_most_count in
      omega (arith, product, cut, takes.within, most, first, then, grown, low, fits)

-- bytes without those at the front, which were put behind the others and cut off
pub front_dropped : (bytes turned new : List ℕ) (count n : ℕ) → n ≡ length bytes - count → turned ≡ drop count bytes ++ take count bytes → new ≡ take n turned → new ≡ drop count bytes
front_dropped bytes turned new count n is turns cuts =
    let long : length (drop count bytes) ≡ n = length-drop count bytes ∙ sym is in
    cuts ∙ ap (take n) turns ∙ take-append-le n (drop count bytes) (take count bytes) (omega (arith, long)) ∙ take_all n (drop count bytes) (omega (arith, long))
