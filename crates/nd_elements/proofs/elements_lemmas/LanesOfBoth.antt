-- The lanes of two layouts of one shape, one of each at a time.
use Rattle.nd_elements.proofs.NamesFromOtherCrates.{◌≡◌, ◌∙◌, ◌+◌, ◌-◌, ap, sym, length, arith, slice_index_or, AreLanesOf, AreSameLanes, IsLane, IsLastAxis, Lane, Lanes, Places, go_on, lane_of}

-- both have come to one rank
abbrev pub AreLanesOfBoth : Places → Places → Lanes → Lanes → Type 0
AreLanesOfBoth places other_lies ours theirs = AreLanesOf places ours × AreLanesOf other_lies theirs × (theirs.rank ≡ ours.rank)

module _ (places other_lies : Places) (ours theirs : Lanes) (so_far : AreLanesOfBoth places other_lies ours theirs) (lane other : Lane) where
  pub as_long : other_lies.lengths.now ≡ places.lengths.now → IsLastAxis ours.lengths.now ours.strides.now lane.count lane.stride → IsLastAxis theirs.lengths.now theirs.strides.now other.count other.stride → other.count ≡ lane.count
  as_long alike last other_last =
      let one = rw so_far.1.1 at other_last.0 in
      let two = rw so_far.0.1 at last.0 in
      one ∙ (ap (λ ns. slice_index_or ns (length ns - 1) 1) alike ∙ sym two)

  -- the second lane has the second layout's places where the first has its own
  pub other_lane_lies : IsLane theirs.first theirs.lengths.now theirs.strides.now theirs.rank other.place other.count other.stride → other.count ≡ lane.count → IsLane other_lies.first other_lies.lengths.now other_lies.strides.now ours.rank other.place lane.count other.stride
  other_lane_lies given long = let lies = lane_of other_lies theirs other so_far.1 given in rw (so_far.2, long) at lies

  -- both at once
  pub both_lie : other_lies.lengths.now ≡ places.lengths.now → IsLastAxis ours.lengths.now ours.strides.now lane.count lane.stride → IsLastAxis theirs.lengths.now theirs.strides.now other.count other.stride → IsLane ours.first ours.lengths.now ours.strides.now ours.rank lane.place lane.count lane.stride → IsLane theirs.first theirs.lengths.now theirs.strides.now theirs.rank other.place other.count other.stride
      → (other.count ≡ lane.count) × IsLane places.first places.lengths.now places.strides.now ours.rank lane.place lane.count lane.stride × IsLane other_lies.first other_lies.lengths.now other_lies.strides.now ours.rank other.place lane.count other.stride
  both_lie alike last other_last given other_given = let long = as_long alike last other_last in (long, lane_of places ours lane so_far.0 given, other_lane_lies other_given long)

  pub go_on_both : (next others_next : Lanes) → AreSameLanes ours next → AreSameLanes theirs others_next → next.rank ≡ ours.rank + lane.count → others_next.rank ≡ theirs.rank + other.count → other.count ≡ lane.count → AreLanesOfBoth places other_lies next others_next
  go_on_both next others_next same others_same ranked others_ranked long = (
    go_on places ours next so_far.0 same,
    go_on other_lies theirs others_next so_far.1 others_same,
    let level = so_far.2 in omega (arith, level, ranked, others_ranked, long),
  )
