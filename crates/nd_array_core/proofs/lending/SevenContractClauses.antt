-- Seven plain clauses at the end of a proof by hand, each a clause of its own. Assumes `Logic`.
use mathlib.Core.List.{List}
use seplogic.Ra.Ura.{Ura}
use base.Logic.{SProp, ent, sep, emp, via, comm∗, mono_l, mono_r, emp∗}
use types.Logic.{Logic}
use types.Kit.{Item, prop, Step, step}
use contract.Monad.{fact, fact_i}

module _ {M : Type 1} (𝓤 : Ura M) where
  with_fact : (φ : Type 0) (F : SProp 𝓤) → φ → ent 𝓤 (emp 𝓤) F → ent 𝓤 (emp 𝓤) (sep 𝓤 (fact 𝓤 φ) F)
  with_fact φ F x f = via 𝓤 (sep 𝓤 (emp 𝓤) (emp 𝓤)) (emp∗ 𝓤 (emp 𝓤)) (via 𝓤 (sep 𝓤 (fact 𝓤 φ) (emp 𝓤)) (mono_l 𝓤 (emp 𝓤) (fact_i 𝓤 φ (emp 𝓤) x)) (mono_r 𝓤 (fact 𝓤 φ) {Q = emp 𝓤} {Q' = F} f))

  added : (P F : SProp 𝓤) → ent 𝓤 (emp 𝓤) F → ent 𝓤 P (sep 𝓤 P F)
  added P F f = via 𝓤 (sep 𝓤 (emp 𝓤) P) (emp∗ 𝓤 P) (via 𝓤 (sep 𝓤 F P) (mono_l 𝓤 P f) (comm∗ 𝓤 F P))

  abbrev Seven : Type 0 → Type 0 → Type 0 → Type 0 → Type 0 → Type 0 → Type 0 → SProp 𝓤
  Seven α β γ δ ε ζ η = sep 𝓤 (fact 𝓤 α) (sep 𝓤 (fact 𝓤 β) (sep 𝓤 (fact 𝓤 γ) (sep 𝓤 (fact 𝓤 δ) (sep 𝓤 (fact 𝓤 ε) (sep 𝓤 (fact 𝓤 ζ) (fact 𝓤 η))))))

  seven : (α β γ δ ε ζ η : Type 0) → α × β × γ × δ × ε × ζ × η → ent 𝓤 (emp 𝓤) (Seven α β γ δ ε ζ η)
  seven α β γ δ ε ζ η x = with_fact α _ x.0 (with_fact β _ x.1 (with_fact γ _ x.2 (with_fact δ _ x.3 (with_fact ε _ x.4 (with_fact ζ _ x.5 (fact_i 𝓤 η (emp 𝓤) x.6))))))

pub says_seven : {M : Type 1} {𝓤 : Ura M} {𝓛 : Logic 𝓤} {K : Type 0} {Γ : List (Item 𝓤)} → K → {α β γ δ ε ζ η : Type 0} {P : SProp 𝓤} → α × β × γ × δ × ε × ζ × η → Step K 𝓛 Γ (prop P) Γ (prop (sep 𝓤 P (Seven 𝓤 α β γ δ ε ζ η)))
says_seven {𝓤 = 𝓤} t {α} {β} {γ} {δ} {ε} {ζ} {η} {P} x = step (λ s. record { prf = via 𝓤 P s.prf (added 𝓤 P (Seven 𝓤 α β γ δ ε ζ η) (seven 𝓤 α β γ δ ε ζ η x)) })
