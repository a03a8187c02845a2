-- Keywords and their spelling.
use Rattle.std.proofs.Common.{◌≡◌, ℕ, ◌⊎◌, Bool, true, false, cond, List, [], ◌∷◌, length, refl, inl, inr}
use Rattle.std.specs.Str.{bytes_eq}
use Rattle.std.proofs.lemmas.Slice.Eq.{bytes_eq-Decides}
use Rattle.nd_text.specs.declared.script_keywords.Keyword.{Keyword}
use Rattle.nd_text.specs.declared.script_keywords.Keyword.TheVariants.{Start, Other}
use Rattle.nd_text.specs.KeywordSpelling.{spelling}
use Rattle.nd_text.specs.KeywordSpelling.{keywords_of, keyword_among, keyword_of}

-- a keyword's spelling reads back as it
pub known : (k : Keyword) → keyword_of (spelling k) ≡ k
unfolding keyword_of
known Start = refl
known _ = refl

spelled_by : (t : Bool) (k : Keyword) (ks : List Keyword) (word : List ℕ) → bytes_eq word (spelling k) ≡ t → (keyword_among ks word ≡ Other) ⊎ (word ≡ spelling (keyword_among ks word))
    → (cond t k (keyword_among ks word) ≡ Other) ⊎ (word ≡ spelling (cond t k (keyword_among ks word)))
spelled_by true k ks word e h = inr ((bytes_eq-Decides word (spelling k)).0 e)
spelled_by false k ks word e h = h

spelled_among : (ks : List Keyword) (word : List ℕ) → (keyword_among ks word ≡ Other) ⊎ (word ≡ spelling (keyword_among ks word))
spelled_among [] word = inl refl
spelled_among (k ∷ ks) word = spelled_by (bytes_eq word (spelling k)) k ks word refl (spelled_among ks word)

-- a word that names something is spelled so
pub spelled : (word : List ℕ) → (keyword_of word ≡ Other) ⊎ (word ≡ spelling (keyword_of word))
unfolding keyword_of
spelled word = spelled_among (keywords_of (length word)) word
