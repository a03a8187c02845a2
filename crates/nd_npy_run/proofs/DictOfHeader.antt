-- The dict in a head.
use Rattle.std.proofs.Common.{◌≡◌, ◌≤◌, ℕ, List, length, drop, refl, arith}
use Rattle.nd_npy_text.specs.HeaderDescription.{Description}
use Rattle.nd_npy_text.specs.HeaderWriting.{npy_header_text, padded, roomy_text}

-- behind the ten bytes in front of it, a head is the dict with its spaces and line feed
pub head_long : (head : List ℕ) (d : Description) → head ≡ npy_header_text d → 10 ≤ length head
unfolding npy_header_text
head_long head d is = rw is (omega arith)

pub dict_after_front : (head : List ℕ) (d : Description) → head ≡ npy_header_text d → drop 10 head ≡ padded (roomy_text d)
unfolding npy_header_text
dict_after_front head d is = rw is refl
