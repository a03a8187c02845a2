-- How keywords are spelled, which of them a word spells, and which begin a step.
use Rattle.std.specs.Prelude.{Bool, true, false, ℕ, nat_lt, ◌==◌, List, [], ◌∷◌, length, codes, if◌then◌else◌}
use Rattle.std.specs.Str.{bytes_eq}
use Rattle.nd_text.specs.declared.script_keywords.Keyword.{Keyword}
use Rattle.nd_text.specs.declared.script_keywords.Keyword.TheVariants.{Start, Keep, Ask, Write, Split, Slash, Cut, Slice, Collapse, Index, Permute, Reverse, SwapAxes, Invert, Insert, Remove, Squeeze, Diag, Broadcast, Part, Coordinate, New, Shape, Elements, Get, First, Last, Equal, Count, Select, RemoveIndex, Reshape, Append, Push, Reserve, Concat, Stack, Row, Column, Fill, Assign, Set, Swap, Other}

abbrev pub spelling : Keyword → List ℕ
spelling Start = codes "start"
spelling Keep = codes "keep"
spelling Ask = codes "ask"
spelling Write = codes "write"
spelling Split = codes "split"
spelling Slash = codes "/"
spelling Cut = codes "cut"
spelling Slice = codes "slice"
spelling Collapse = codes "collapse"
spelling Index = codes "index"
spelling Permute = codes "permute"
spelling Reverse = codes "reverse"
spelling SwapAxes = codes "swapaxes"
spelling Invert = codes "invert"
spelling Insert = codes "insert"
spelling Remove = codes "remove"
spelling Squeeze = codes "squeeze"
spelling Diag = codes "diag"
spelling Broadcast = codes "broadcast"
spelling Part = codes "s"
spelling Coordinate = codes "i"
spelling New = codes "n"
spelling Shape = codes "shape"
spelling Elements = codes "elements"
spelling Get = codes "get"
spelling First = codes "first"
spelling Last = codes "last"
spelling Equal = codes "equal"
spelling Count = codes "count"
spelling Select = codes "select"
spelling RemoveIndex = codes "removeindex"
spelling Reshape = codes "reshape"
spelling Append = codes "append"
spelling Push = codes "push"
spelling Reserve = codes "reserve"
spelling Concat = codes "concat"
spelling Stack = codes "stack"
spelling Row = codes "row"
spelling Column = codes "col"
spelling Fill = codes "fill"
spelling Assign = codes "assign"
spelling Set = codes "set"
spelling Swap = codes "swap"
spelling Other = []

-- Returns the first of the keywords that the word spells, or `Other` if it spells none of them.
abbrev pub keyword_among : List Keyword → List ℕ → Keyword
keyword_among [] word = Other
keyword_among (k ∷ ks) word = if bytes_eq word (spelling k) then k else keyword_among ks word

-- The keywords of more than seven bytes.
abbrev pub long_keywords : List Keyword
long_keywords = Collapse ∷ SwapAxes ∷ Elements ∷ Broadcast ∷ RemoveIndex ∷ []

-- Returns the keywords of `n` bytes, and all keywords of more than seven bytes if `n` is more than seven.
abbrev pub keywords_of : ℕ → List Keyword
keywords_of n = if nat_lt 7 n then long_keywords else (if n == 7 then Permute ∷ Reverse ∷ Squeeze ∷ Reshape ∷ Reserve ∷ [] else (if n == 6 then Invert ∷ Insert ∷ Remove ∷ Select ∷ Append ∷ Concat ∷ Assign ∷ [] else (if n == 5 then Start ∷ Write ∷ Split ∷ Slice ∷ Index ∷ Shape ∷ First ∷ Equal ∷ Count ∷ Stack ∷ [] else (if n == 4 then Keep ∷ Diag ∷ Last ∷ Push ∷ Fill ∷ Swap ∷ [] else (if n == 3 then Ask ∷ Cut ∷ Get ∷ Row ∷ Column ∷ Set ∷ [] else (if n == 1 then Slash ∷ Part ∷ Coordinate ∷ New ∷ [] else []))))))

-- Returns the keyword that the word spells, or `Other` if it spells none.
unfoldable pub keyword_of : List ℕ → Keyword
keyword_of word = keyword_among (keywords_of (length word)) word

-- Returns whether the keyword begins a step.
abbrev pub is_step : Keyword → Bool
is_step Cut = true
is_step Slice = true
is_step Collapse = true
is_step Index = true
is_step Permute = true
is_step Reverse = true
is_step SwapAxes = true
is_step Invert = true
is_step Insert = true
is_step Remove = true
is_step Squeeze = true
is_step Diag = true
is_step Broadcast = true
is_step _ = false
