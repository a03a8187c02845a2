use Rattle.nd_array_core.proofs.NamesFromOtherCrates.{◌≡◌, ◌∙◌, ℕ, zero, suc, ◌<◌, true, List, [], ◌∷◌, ap, arith, length, refl, sym, and_parts, eqb-true, true≢false, slice_get_read, ◌&&◌, None, if◌then◌else◌, is_some, slice_get, in_box, place_of, names_place, stored_at}
use Rattle.std.proofs.Math.Dec.{eqb, leb}
use Rattle.nd_array_core.specs.ArrayMeaning.{meaning_of}
use Rattle.nd_array_core.proofs.elements.into_scalar.Array+A+Ix0.into_scalar.Goals as goal

no_axes : (ns : List ℕ) (axes : ℕ) → axes ≡ length ns → (eqb axes 0 && leb axes 32) ≡ true → in_box ns [] ≡ true
no_axes [] axes is number = refl
no_axes (n ∷ ns) axes is number = absurd (let none = eqb-true axes 0 (and_parts (eqb axes 0) (leb axes 32) number).0 in omega (arith, is, none))

got_below : {A : Type 0} (xs : List A) (k : ℕ) → is_some (slice_get xs k) ≡ true → k < length xs
got_below [] k some = absurd (true≢false (sym some))
got_below (x ∷ xs) zero some = omega arith
got_below (x ∷ xs) (suc k) some = let below = got_below xs k some in omega (arith, below)

pub unreachable-requires : goal.unreachable-requires
unfolding meaning_of
unreachable-requires g c =
    let axes = c.ndim-axes.ensures in
    true≢false (sym (no_axes c.args.self.layout.dim.lens c.ndim-axes.result axes.value axes.number) ∙ c.in-None.ensures {u = tt})

pub swap_remove-requires : goal.swap_remove-requires
swap_remove-requires g c =
    let items = c.args.self.storage.items in
    let found = c.in-Some.ensures {u = tt} in
    let below = got_below items.items c.in-Some.place (ap (names_place (slice_get items.items)) found.1 ∙ c.args.self.inside [] found.0) in
    let long = items.ok.0 in
    omega (arith, below, long)

pub returns : goal.returns
unfolding meaning_of
returns g c =
    let items = c.args.self.storage.items in
    let place = c.in-Some.place in
    let found = c.in-Some.ensures {u = tt} in
    let below = got_below items.items place (ap (names_place (slice_get items.items)) found.1 ∙ c.args.self.inside [] found.0) in
    let long = items.ok.0 in
    ap (λ b. if b then stored_at (slice_get items.items) (place_of c.args.self.layout.offset c.args.self.layout.strides []) else None) found.0
    ∙ (ap (stored_at (slice_get items.items)) (sym found.1)
    ∙ slice_get_read items.items (length items.items) place c.swap_remove.result refl below c.swap_remove.ensures.value)
