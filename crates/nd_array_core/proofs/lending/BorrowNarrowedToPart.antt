-- A region keeps, of its places, those that pass a test, and its borrow follows what is then left of it. Nothing runs for that. Assumes `Logic`.
use Rattle.nd_region.proofs.SeparationLogicImports.{refl, sym, ◌∙◌, Bool, ℕ, List, [], ◌∷◌, Ura, ent, sep, emp, Share, flft, fact, fact_i, Val, Logic, sem, Item, ‵, raw, some, later, ◌⊛◌, ◌$◌, ◌∵◌, !, qed, move, use0, use2, split3, await, updating, show, mean, pick, rewrite, now, done, Array, follows, NamedLft}
use Rattle.std.proofs.mem.Param.{El, R}
use Rattle.nd_region.specs.RegionPlaces.{kept_where, written_where}
use Rattle.nd_region.specs.Region.{IsPartWhere}
use Rattle.nd_region.proofs.RegionReborrows.{kept_length}
use Rattle.nd_region.proofs.RegionValueAndPlaces.{Rg, rg_d, rg_had, rg_made}
use Rattle.nd_region.proofs.PartLoans.{PartLent, lends_part}

module _ (a : NamedLft) (E : El) {M : Type 1} {𝓤 : Ura M} (𝓛 : Logic 𝓤) (test : ℕ → Bool) (q : Share) (whole : rg_d E) (v : Val) where
  open 𝓛 use {H, A}

  abbrev pub RegionNarrowed : rg_d E → Item 𝓤
  RegionNarrowed part = ‵ ((Rg a E).own_val part (v ∷ [])) ⊛ ‵ (flft a.lft q) ⊛ ‵ (follows (Array (R E) 0) (Array (R E) 0) whole.name part.name (written_where test whole.items)) ⊛ raw (fact 𝓤 (IsPartWhere test whole part))

  pub narrows_region : ent 𝓤 (sep 𝓤 (sem 𝓛 ((Rg a E).own_val whole (v ∷ []))) (A.lft a.lft q)) (H.⇛ (mean 𝓛 (some RegionNarrowed)))
  narrows_region =
      qed 𝓛 (‵ ((Rg a E).own_val whole (v ∷ [])) ∷ ‵ (flft a.lft q) ∷ []) ∵ updating ! $ rg_had a E ! whole (v ∷ []) (λ b o at is fn fit long.
      use2 𝓛 (later (some (PartLent E 𝓛 b a.lft q o whole.name whole.items whole.held test))) (lends_part E 𝓛 b a.lft q o whole.name whole.items whole.held test) $ await ! tt $ pick ! (λ δ. split3 ! $
      let part : rg_d E = record { ptr = whole.ptr; len = whole.len; mark = whole.mark; name = δ; items = whole.items; held = kept_where test whole.held; small = whole.small } in
      rg_made a E ! part b o at fn fit (kept_length test whole.held ∙ long) $ rewrite ! 0 (λ (vs : List Val). ‵ ((Rg a E).own_val part vs)) (sym is) refl $
      let Kept = IsPartWhere test whole part in
      use0 𝓛 (raw (fact 𝓤 Kept)) (fact_i 𝓤 Kept (emp 𝓤) (refl, refl)) $ now ! $ show ! (λ x. mean 𝓛 (RegionNarrowed x)) part $ move ! (1 ∷ 2 ∷ 3 ∷ 0 ∷ []) $ done !))
