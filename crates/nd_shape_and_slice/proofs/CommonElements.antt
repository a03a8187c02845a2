-- What two lists of slices both name, axis by axis.
use Rattle.nd_shape_and_slice.proofs.NamesFromOtherCrates.{leb, ltb, ◌≡◌, ℕ, zero, suc, ◌+◌, ◌*◌, ◌<◌, ◌≤◌, true, List, [], ◌∷◌, length, drop, get_or, refl, ap, sym, ◌∙◌, subst, arith, add-one, drop-cons, Some, unwrap_or, false≢true, ltb-true, lt-ltb, and_from, nat_tests, drop_all}
use Rattle.nd_shape_and_slice.specs.declared.slice.Slice.{Slice}
use Rattle.nd_shape_and_slice.specs.declared.slice_info.SliceInfoElem.{SliceInfoElem}
use Rattle.nd_shape_and_slice.specs.declared.slice_info.SliceInfoElem.TheVariants.{Slice as Part, Index, NewAxis}
use Rattle.nd_shape_and_slice.specs.ShapesAndIndexOrders.{in_box}
use Rattle.nd_shape_and_slice.specs.Slice.{sliced_length, sliced_from}
use Rattle.nd_shape_and_slice.specs.SliceInfo.{axes_kept, fits_shape, reads_axis, each_fits, fits_next, shape_after, index_before, coordinate_on}
use Rattle.nd_shape_and_slice.specs.CommonElementsOfSlices.{IsNamed, Intersect, NamesOn, IsProgression, Share, from_reader}
use Rattle.nd_shape_and_slice.proofs.EachAxisOnceCheck.{and_left, and_right}
use Rattle.nd_shape_and_slice.proofs.ListEdits.{first_same, others_same, drop-next}

-- a new axis names nothing else
named_new : (ns : List ℕ) (es : List SliceInfoElem) (x : List ℕ) → IsNamed ns es x → IsNamed ns (NewAxis ∷ es) x
named_new [] es x h = record { new = 0 ∷ h.new; in_result = h.in_result; stands_for = h.stands_for }
named_new (n ∷ ns) es x h = record { new = 0 ∷ h.new; in_result = h.in_result; stands_for = h.stands_for }

without_new : (ns : List ℕ) (es : List SliceInfoElem) (x new : List ℕ) → in_box (shape_after ns (NewAxis ∷ es)) new ≡ true → index_before ns (NewAxis ∷ es) new ≡ x → IsNamed ns es x
without_new [] es x [] h e = absurd (false≢true h)
without_new (n ∷ ns) es x [] h e = absurd (false≢true h)
without_new [] es x (i ∷ is) h e = record { new = is; in_result = and_right (ltb i 1) (in_box (shape_after [] es) is) h; stands_for = e }
without_new (n ∷ ns) es x (i ∷ is) h e = record { new = is; in_result = and_right (ltb i 1) (in_box (shape_after (n ∷ ns) es) is) h; stands_for = e }

new_named : (ns : List ℕ) (es : List SliceInfoElem) (x : List ℕ) → IsNamed ns (NewAxis ∷ es) x → IsNamed ns es x
new_named ns es x h = without_new ns es x h.new h.in_result h.stands_for

skip_new : (ns : List ℕ) (es : List SliceInfoElem) (x : List ℕ) → IsNamed ns es x → IsNamed ns (from_reader es) x
skip_new ns [] x h = h
skip_new ns (Part start end step ∷ es) x h = h
skip_new ns (Index k ∷ es) x h = h
skip_new ns (NewAxis ∷ es) x h = skip_new ns es x (new_named ns es x h)

put_new : (ns : List ℕ) (es : List SliceInfoElem) (x : List ℕ) → IsNamed ns (from_reader es) x → IsNamed ns es x
put_new ns [] x h = h
put_new ns (Part start end step ∷ es) x h = h
put_new ns (Index k ∷ es) x h = h
put_new ns (NewAxis ∷ es) x h = named_new ns es x (put_new ns es x h)

-- an element that reads an axis, and the rest of the list
record IsReader (n : ℕ) (ns : List ℕ) (es : List SliceInfoElem) (e : SliceInfoElem) (rest : List SliceInfoElem) : Type 0 where
  is : from_reader es ≡ e ∷ rest
  reads : reads_axis e ≡ true
  fits : fits_next (Some n) e ≡ true
  rest_fits : each_fits ns rest ≡ true

reader_of : (n : ℕ) (ns : List ℕ) (es : List SliceInfoElem) → each_fits (n ∷ ns) es ≡ true → (e : SliceInfoElem) × (rest : List SliceInfoElem) × IsReader n ns es e rest
reader_of n ns [] h = absurd (false≢true h)
reader_of n ns (Part start end step ∷ es) h = (Part start end step, es, record { is = refl; reads = refl; fits = and_left (fits_next (Some n) (Part start end step)) (each_fits ns es) h; rest_fits = and_right (fits_next (Some n) (Part start end step)) (each_fits ns es) h })
reader_of n ns (Index k ∷ es) h = (Index k, es, record { is = refl; reads = refl; fits = and_left (fits_next (Some n) (Index k)) (each_fits ns es) h; rest_fits = and_right (fits_next (Some n) (Index k)) (each_fits ns es) h })
reader_of n ns (NewAxis ∷ es) h =
    let more = reader_of n ns es h in
    (more.0, more.1, record { is = more.2.is; reads = more.2.reads; fits = more.2.fits; rest_fits = more.2.rest_fits })

-- what it names, and what the rest names
named_first : (n : ℕ) (ns : List ℕ) (e : SliceInfoElem) (es : List SliceInfoElem) (x : ℕ) (xs : List ℕ) → reads_axis e ≡ true → NamesOn n e x → IsNamed ns es xs → IsNamed (n ∷ ns) (e ∷ es) (x ∷ xs)
named_first n ns (Part start end step) es x xs h on rest = record {
  new = on.0 ∷ rest.new;
  in_result = and_from (ltb on.0 (sliced_length n (record { start = start; end = end; step = step }))) (in_box (shape_after ns es) rest.new) (lt-ltb on.0 (sliced_length n (record { start = start; end = end; step = step })) on.1) rest.in_result;
  stands_for = ap (λ a. a ∷ index_before ns es rest.new) on.2 ∙ ap (λ l. x ∷ l) rest.stands_for;
}
named_first n ns (Index k) es x xs h on rest = record {
  new = rest.new;
  in_result = rest.in_result;
  stands_for = ap (λ a. a ∷ index_before ns es rest.new) on ∙ ap (λ l. x ∷ l) rest.stands_for;
}
named_first n ns NewAxis es x xs h on rest = absurd (false≢true h)

-- an index of the array by its first coordinate
record Begins (n : ℕ) (ns : List ℕ) (e : SliceInfoElem) (es : List SliceInfoElem) (y : List ℕ) : Type 0 where
  first : ℕ
  others : List ℕ
  whole : first ∷ others ≡ y
  on : NamesOn n e first
  rest : IsNamed ns es others

first_named : (n : ℕ) (ns : List ℕ) (e : SliceInfoElem) (es : List SliceInfoElem) (y new : List ℕ) → reads_axis e ≡ true → in_box (shape_after (n ∷ ns) (e ∷ es)) new ≡ true → index_before (n ∷ ns) (e ∷ es) new ≡ y → Begins n ns e es y
first_named n ns (Part start end step) es y [] h inside is = absurd (false≢true inside)
first_named n ns (Part start end step) es y (i ∷ is) h inside names =
    let s : Slice = record { start = start; end = end; step = step } in
    record {
      first = sliced_from n s i;
      others = index_before ns es is;
      whole = names;
      on = (i, ltb-true i (sliced_length n s) (and_left (ltb i (sliced_length n s)) (in_box (shape_after ns es) is) inside), refl);
      rest = record { new = is; in_result = and_right (ltb i (sliced_length n s)) (in_box (shape_after ns es) is) inside; stands_for = refl };
    }
first_named n ns (Index k) es y new h inside names = record {
  first = unwrap_or (coordinate_on n k) 0;
  others = index_before ns es new;
  whole = names;
  on = refl;
  rest = record { new = new; in_result = inside; stands_for = refl };
}
first_named n ns NewAxis es y new h inside names = absurd (false≢true h)

-- the element at a place, where the list goes on from there
there : (es : List SliceInfoElem) (i : ℕ) (e : SliceInfoElem) (rest : List SliceInfoElem) → drop i es ≡ e ∷ rest → i < length es
there [] zero e rest h = absurd cc
there [] (suc i) e rest h = absurd cc
there (x ∷ es) zero e rest h = omega arith
there (x ∷ es) (suc i) e rest h = let more = there es i e rest h in omega (arith, more)

element_there : (es : List SliceInfoElem) (i : ℕ) (e d : SliceInfoElem) (rest : List SliceInfoElem) → drop i es ≡ e ∷ rest → get_or es i d ≡ e
element_there es i e d rest h = first_same (get_or es i d) e (drop (suc i) es) rest (sym (drop-cons es i d (there es i e rest h)) ∙ h)

rest_there : (es : List SliceInfoElem) (i : ℕ) (e : SliceInfoElem) (rest : List SliceInfoElem) → drop i es ≡ e ∷ rest → drop (i + 1) es ≡ rest
rest_there es i e rest h = rw add-one (others_same (get_or es i e) e (drop (suc i) es) rest (sym (drop-cons es i e (there es i e rest h)) ∙ h))

-- the next element that reads an axis stands at i'
pub record IsAt (n : ℕ) (ns : List ℕ) (es : List SliceInfoElem) (i i' : ℕ) (d : SliceInfoElem) : Type 0 where
  pub within : i' < length es
  pub reads : reads_axis (get_or es i' d) ≡ true
  pub fits : fits_next (Some n) (get_or es i' d) ≡ true
  pub same : from_reader (drop i es) ≡ get_or es i' d ∷ drop (i' + 1) es
  pub rest_fits : each_fits ns (drop (i' + 1) es) ≡ true

at_place : (n : ℕ) (ns : List ℕ) (es : List SliceInfoElem) (i i' : ℕ) (d : SliceInfoElem) → each_fits (n ∷ ns) (drop i es) ≡ true → drop i' es ≡ from_reader (drop i es) → IsAt n ns es i i' d
at_place n ns es i i' d h skipped =
    let r = reader_of n ns (drop i es) h in
    let here : drop i' es ≡ r.0 ∷ r.1 = skipped ∙ r.2.is in
    let e = element_there es i' r.0 d r.1 here in
    let rest = rest_there es i' r.0 r.1 here in
    record {
      within = there es i' r.0 r.1 here;
      reads = ap reads_axis e ∙ r.2.reads;
      fits = ap (fits_next (Some n)) e ∙ r.2.fits;
      same = r.2.is ∙ (ap (λ x. x ∷ r.1) (sym e) ∙ ap (λ l. get_or es i' d ∷ l) (sym rest));
      rest_fits = ap (each_fits ns) rest ∙ r.2.rest_fits;
    }

begins_at : (n : ℕ) (ns : List ℕ) (es : List SliceInfoElem) (i i' : ℕ) (d : SliceInfoElem) (y : List ℕ) → IsAt n ns es i i' d → IsNamed (n ∷ ns) (drop i es) y → Begins n ns (get_or es i' d) (drop (i' + 1) es) y
begins_at n ns es i i' d y at h =
    let named = subst (λ l. IsNamed (n ∷ ns) l y) at.same (skip_new (n ∷ ns) (drop i es) y h) in
    first_named n ns (get_or es i' d) (drop (i' + 1) es) y named.new at.reads named.in_result named.stands_for

named_at : (n : ℕ) (ns : List ℕ) (es : List SliceInfoElem) (i i' : ℕ) (d : SliceInfoElem) (x : ℕ) (xs : List ℕ) → IsAt n ns es i i' d → NamesOn n (get_or es i' d) x → IsNamed ns (drop (i' + 1) es) xs → IsNamed (n ∷ ns) (drop i es) (x ∷ xs)
named_at n ns es i i' d x xs at on rest = put_new (n ∷ ns) (drop i es) (x ∷ xs) (subst (λ l. IsNamed (n ∷ ns) l (x ∷ xs)) (sym at.same) (named_first n ns (get_or es i' d) (drop (i' + 1) es) x xs at.reads on rest))

-- both name an element exactly where both name a coordinate of the axis, and the rest of both names an element
record Both (n : ℕ) (ns : List ℕ) (e f : SliceInfoElem) (es fs : List SliceInfoElem) : Type 0 where
  coordinate : ℕ
  in_e : NamesOn n e coordinate
  in_f : NamesOn n f coordinate
  rest : Intersect ns es fs

split_both : (n : ℕ) (ns : List ℕ) (es fs : List SliceInfoElem) (i i' j j' : ℕ) (d g : SliceInfoElem) → IsAt n ns es i i' d → IsAt n ns fs j j' g → Intersect (n ∷ ns) (drop i es) (drop j fs) → Both n ns (get_or es i' d) (get_or fs j' g) (drop (i' + 1) es) (drop (j' + 1) fs)
split_both n ns es fs i i' j j' d g a b h =
    let p = begins_at n ns es i i' d h.common a h.in_first in
    let q = begins_at n ns fs j j' g h.common b h.in_second in
    let first : q.first ≡ p.first = first_same q.first p.first q.others p.others (q.whole ∙ sym p.whole) in
    let others : q.others ≡ p.others = others_same q.first p.first q.others p.others (q.whole ∙ sym p.whole) in
    record {
      coordinate = p.first;
      in_e = p.on;
      in_f = subst (λ x. NamesOn n (get_or fs j' g) x) first q.on;
      rest = record { common = p.others; in_first = p.rest; in_second = subst (λ l. IsNamed ns (drop (j' + 1) fs) l) others q.rest };
    }

join_both : (n : ℕ) (ns : List ℕ) (es fs : List SliceInfoElem) (i i' j j' x : ℕ) (d g : SliceInfoElem) → IsAt n ns es i i' d → IsAt n ns fs j j' g → NamesOn n (get_or es i' d) x → NamesOn n (get_or fs j' g) x → Intersect ns (drop (i' + 1) es) (drop (j' + 1) fs) → Intersect (n ∷ ns) (drop i es) (drop j fs)
join_both n ns es fs i i' j j' x d g a b on_e on_f rest = record {
  common = x ∷ rest.common;
  in_first = named_at n ns es i i' d x rest.common a on_e rest.in_first;
  in_second = named_at n ns fs j j' g x rest.common b on_f rest.in_second;
}

-- no axis is left
named_none : (es : List SliceInfoElem) → each_fits [] es ≡ true → IsNamed [] es []
named_none [] h = record { new = []; in_result = refl; stands_for = refl }
named_none (Part start end step ∷ es) h = absurd (false≢true h)
named_none (Index k ∷ es) h = absurd (false≢true h)
named_none (NewAxis ∷ es) h = named_new [] es [] (named_none es h)

-- the axes before the k-th have a coordinate that both lists name: what is left decides
pub record IsMetUpTo (ns : List ℕ) (es fs : List SliceInfoElem) (k i j : ℕ) : Type 0 where
  pub within_first : i ≤ length es
  pub within_second : j ≤ length fs
  pub fits_first : each_fits (drop k ns) (drop i es) ≡ true
  pub fits_second : each_fits (drop k ns) (drop j fs) ≡ true
  pub onward : Intersect ns es fs → Intersect (drop k ns) (drop i es) (drop j fs)
  pub back : Intersect (drop k ns) (drop i es) (drop j fs) → Intersect ns es fs

pub met_start : (ns : List ℕ) (es fs : List SliceInfoElem) → fits_shape ns es ≡ true → fits_shape ns fs ≡ true → IsMetUpTo ns es fs 0 0 0
met_start ns es fs a b = record {
  within_first = omega arith;
  within_second = omega arith;
  fits_first = and_left (each_fits ns es) (leb (axes_kept es) 32) a;
  fits_second = and_left (each_fits ns fs) (leb (axes_kept fs) 32) b;
  onward = λ h. h;
  back = λ h. h;
}

pub first_at : (ns : List ℕ) (es fs : List SliceInfoElem) (k i j i' : ℕ) (d : SliceInfoElem) → k < length ns → IsMetUpTo ns es fs k i j → drop i' es ≡ from_reader (drop i es) → IsAt (get_or ns k 0) (drop (k + 1) ns) es i i' d
first_at ns es fs k i j i' d h met skipped = at_place (get_or ns k 0) (drop (k + 1) ns) es i i' d (ap (λ l. each_fits l (drop i es)) (sym (drop-next ns k 0 h)) ∙ met.fits_first) skipped

pub second_at : (ns : List ℕ) (es fs : List SliceInfoElem) (k i j j' : ℕ) (d : SliceInfoElem) → k < length ns → IsMetUpTo ns es fs k i j → drop j' fs ≡ from_reader (drop j fs) → IsAt (get_or ns k 0) (drop (k + 1) ns) fs j j' d
second_at ns es fs k i j j' d h met skipped = at_place (get_or ns k 0) (drop (k + 1) ns) fs j j' d (ap (λ l. each_fits l (drop j fs)) (sym (drop-next ns k 0 h)) ∙ met.fits_second) skipped

pub met_more : (ns : List ℕ) (es fs : List SliceInfoElem) (k i j i' j' : ℕ) (d g : SliceInfoElem) (l s c l' s' c' : ℕ) → k < length ns → IsMetUpTo ns es fs k i j → drop i' es ≡ from_reader (drop i es) → drop j' fs ≡ from_reader (drop j fs) → IsProgression (get_or ns k 0) (get_or es i' d) l s c → IsProgression (get_or ns k 0) (get_or fs j' g) l' s' c' → Share l s c l' s' c' → IsMetUpTo ns es fs (k + 1) (i' + 1) (j' + 1)
met_more ns es fs k i j i' j' d g l s c l' s' c' h met in_e in_f p q share =
    let n = get_or ns k 0 in
    let a = first_at ns es fs k i j i' d h met in_e in
    let b = second_at ns es fs k i j j' g h met in_f in
    let axis = drop-next ns k 0 h in
    let on_f = subst (λ x. NamesOn n (get_or fs j' g) x) (sym share.equal) (q.is_named share.at_second share.in_second) in
    record {
      within_first = omega (arith, a.within);
      within_second = omega (arith, b.within);
      fits_first = a.rest_fits;
      fits_second = b.rest_fits;
      onward = λ whole. (split_both n (drop (k + 1) ns) es fs i i' j j' d g a b (subst (λ m. Intersect m (drop i es) (drop j fs)) axis (met.onward whole))).rest;
      back = λ rest. met.back (subst (λ m. Intersect m (drop i es) (drop j fs)) (sym axis) (join_both n (drop (k + 1) ns) es fs i i' j j' (l + share.at_first * s) d g a b (p.is_named share.at_first share.in_first) on_f rest));
    }

pub met_not : (ns : List ℕ) (es fs : List SliceInfoElem) (k i j i' j' : ℕ) (d g : SliceInfoElem) (l s c l' s' c' : ℕ) → k < length ns → IsMetUpTo ns es fs k i j → drop i' es ≡ from_reader (drop i es) → drop j' fs ≡ from_reader (drop j fs) → IsProgression (get_or ns k 0) (get_or es i' d) l s c → IsProgression (get_or ns k 0) (get_or fs j' g) l' s' c' → (Share l s c l' s' c' → ⊥) → Intersect ns es fs → ⊥
met_not ns es fs k i j i' j' d g l s c l' s' c' h met in_e in_f p q apart whole =
    let n = get_or ns k 0 in
    let a = first_at ns es fs k i j i' d h met in_e in
    let b = second_at ns es fs k i j j' g h met in_f in
    let both = split_both n (drop (k + 1) ns) es fs i i' j j' d g a b (subst (λ m. Intersect m (drop i es) (drop j fs)) (drop-next ns k 0 h) (met.onward whole)) in
    let t = p.only both.coordinate both.in_e in
    let u = q.only both.coordinate both.in_f in
    apart (record { at_first = t.0; at_second = u.0; in_first = t.1; in_second = u.1; equal = t.2 ∙ sym u.2 })

pub met_all : (ns : List ℕ) (es fs : List SliceInfoElem) (k i j : ℕ) → length ns ≤ k → IsMetUpTo ns es fs k i j → Intersect ns es fs
met_all ns es fs k i j h met =
    let none = drop_all k ns h in
    met.back (subst (λ m. Intersect m (drop i es) (drop j fs)) (sym none) (record {
      common = [];
      in_first = named_none (drop i es) (ap (λ m. each_fits m (drop i es)) (sym none) ∙ met.fits_first);
      in_second = named_none (drop j fs) (ap (λ m. each_fits m (drop j fs)) (sym none) ∙ met.fits_second);
    }))
