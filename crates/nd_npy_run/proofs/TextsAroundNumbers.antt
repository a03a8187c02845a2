-- A number between two texts, and what is written after them.
use Rattle.std.proofs.Common.{◌≡◌, ◌∙◌, ℕ, List, ◌++◌, append_assoc, Option, ap, subst}
use Rattle.nd_text.specs.declared.watched_streams.Watched.{Watched}
use Rattle.nd_text.specs.BufferedPrinting.{Puts}
use Rattle.nd_text.proofs.PrintingInTurn.{puts_then}

pub counted_then : {W : Type 0} {contents : W → Option (List ℕ)} {old mid new : Watched W} {held between left : List ℕ} (before number after : List ℕ) {t : List ℕ}
    → Puts contents old held mid between (before ++ (number ++ after)) → Puts contents mid between new left t → Puts contents old held new left (before ++ (number ++ (after ++ t)))
counted_then {W} {contents} {old} {mid} {new} {held} {between} {left} before number after {t} p q =
    let same : (before ++ (number ++ after)) ++ t ≡ before ++ (number ++ (after ++ t)) = append_assoc before (number ++ after) t ∙ ap (λ s. before ++ s) (append_assoc number after t) in
    subst (Puts contents old held new left) same (puts_then p q)
