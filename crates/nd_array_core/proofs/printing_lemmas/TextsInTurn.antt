-- Texts that are written one after the other.
use Rattle.nd_array_core.proofs.NamesFromOtherCrates.{◌≡◌, ◌+◌, ◌-◌, ◌≤◌, ℕ, suc, List, Option, Some, None, IfSome, IsOk, Result, ap, arith, subst, has_written_append, has_written_styled_append, DisplaysOnOk, DisplaysStyledOnOk, HasWritten, HasWrittenStyled, IsFlush, IsPlainFormatter, formatter_spec, option_append, Error, FormatSpec, Formatter, Meaning}
use Rattle.nd_array_core.specs.printing.ArrayTexts.{item_text, run_text}

module _ {W : Type 0} (took : W → List ℕ → W → Type 0) where
  -- what has been written, and then more
  pub shows_more : (o p : Option (List ℕ)) (f g h : Formatter W)
      → IfSome o (λ bs. IsPlainFormatter f → HasWritten took f bs g)
      → IfSome p (λ bs. IsPlainFormatter g → HasWritten took g bs h)
      → IfSome (option_append o p) (λ bs. IsPlainFormatter f → HasWritten took f bs h)
  shows_more None p f g h a b = tt
  shows_more (Some xs) None f g h a b = tt
  shows_more (Some xs) (Some ys) f g h a b = λ plain.
      has_written_append took f xs g ys h (a plain) (b (a plain).plain)

  -- once a write has gone well
  pub shows_well : (o : Option (List ℕ)) (f g : Formatter W) (r : Result (Unit {0}) Error) → DisplaysOnOk took f r o g → IsOk r → IfSome o (λ bs. IsPlainFormatter f → HasWritten took f bs g)
  shows_well None f g r a ok = tt
  shows_well (Some xs) f g r a ok = λ plain. a plain ok

  -- a write that went well, and the next one
  pub shows_then : (o p : Option (List ℕ)) (f g h : Formatter W) (r s : Result (Unit {0}) Error)
      → DisplaysOnOk took f r o g → IsOk r → DisplaysOnOk took g s p h → DisplaysOnOk took f s (option_append o p) h
  shows_then None p f g h r s a ok b = tt
  shows_then (Some xs) None f g h r s a ok b = tt
  shows_then (Some xs) (Some ys) f g h r s a ok b = λ plain well.
      has_written_append took f xs g ys h (a plain ok) (b (a plain ok).plain well)

  -- the same under any options, where the second text is that under the options of the second formatter
  pub styled_more : (o : Option (List ℕ)) (p : FormatSpec → Option (List ℕ)) (f g h : Formatter W)
      → IfSome o (λ bs. IsFlush f → HasWrittenStyled took f bs g)
      → IfSome (p (formatter_spec g)) (λ bs. IsFlush g → HasWrittenStyled took g bs h)
      → IfSome (option_append o (p (formatter_spec f))) (λ bs. IsFlush f → HasWrittenStyled took f bs h)
  styled_more o p f g h a b = both o (p (formatter_spec f)) a (λ same. subst (λ s. IfSome (p s) (λ bs. IsFlush g → HasWrittenStyled took g bs h)) same b)
    where
      both : (o q : Option (List ℕ))
          → IfSome o (λ bs. IsFlush f → HasWrittenStyled took f bs g)
          → (formatter_spec g ≡ formatter_spec f → IfSome q (λ bs. IsFlush g → HasWrittenStyled took g bs h))
          → IfSome (option_append o q) (λ bs. IsFlush f → HasWrittenStyled took f bs h)
      both None q a b = tt
      both (Some xs) None a b = tt
      both (Some xs) (Some ys) a b = λ flush. has_written_styled_append took f xs g ys h (a flush) (b (a flush).spec (a flush).flush)

  pub styled_well : (o : Option (List ℕ)) (f g : Formatter W) (r : Result (Unit {0}) Error) → DisplaysStyledOnOk took f r o g → IsOk r → IfSome o (λ bs. IsFlush f → HasWrittenStyled took f bs g)
  styled_well None f g r a ok = tt
  styled_well (Some xs) f g r a ok = λ flush. a flush ok

  pub styled_then : (o : Option (List ℕ)) (p : FormatSpec → Option (List ℕ)) (f g h : Formatter W) (r s : Result (Unit {0}) Error)
      → DisplaysStyledOnOk took f r o g → IsOk r → DisplaysStyledOnOk took g s (p (formatter_spec g)) h → DisplaysStyledOnOk took f s (option_append o (p (formatter_spec f))) h
  styled_then o p f g h r s a ok b = both o (p (formatter_spec f)) a (λ same. subst (λ z. DisplaysStyledOnOk took g s (p z) h) same b)
    where
      both : (o q : Option (List ℕ)) → DisplaysStyledOnOk took f r o g → (formatter_spec g ≡ formatter_spec f → DisplaysStyledOnOk took g s q h) → DisplaysStyledOnOk took f s (option_append o q) h
      both None q a b = tt
      both (Some xs) None a b = tt
      both (Some xs) (Some ys) a b = λ flush well.
          has_written_styled_append took f xs g ys h (a flush ok) (b (a flush ok).spec (a flush ok).flush well)

pub run_step : (between : List ℕ) (entry : ℕ → Option (List ℕ)) (from k : ℕ) → from ≤ k
    → run_text between entry from (k + 1 - from) ≡ option_append (run_text between entry from (k - from)) (item_text between entry k)
run_step between entry from k within =
    let more : k + 1 - from ≡ suc (k - from) = omega (arith, within) in
    let there : from + (k - from) ≡ k = omega (arith, within) in
    rw more (ap (λ j. option_append (run_text between entry from (k - from)) (item_text between entry j)) there)

-- arrays of one shape with the same element at each index
pub same_meaning : {A : Type 0} (m n : Meaning A) → m.shape ≡ n.shape → ((i : List ℕ) → m.at i ≡ n.at i) → m ≡ n
same_meaning m n shape at = λ t. record { shape = shape t; at = λ i. at i t }
