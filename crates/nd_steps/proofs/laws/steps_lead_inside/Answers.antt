use Rattle.std.proofs.Common.{length}
use Rattle.std.proofs.lemmas.Bool.{ltb-true, leb-true, and_parts}
use Rattle.nd_shape_and_slice.specs.SliceInfo.{each_fits}
use Rattle.nd_shape_and_slice.proofs.EachAxisOnceCheck.{HasEachAxis-test}
use Rattle.nd_read.specs.ScriptCalls.{SlicedAxis, Sliced, Collapsed, Indexed, Permuted, Reversed, Exchanged, Inverted, Inserted, Removed, Squeezed, Diagonal, BroadcastTo}
use Rattle.nd_steps.proofs.StepChecks.{all_passed, list_fits}
use Rattle.nd_steps.proofs.laws.steps_lead_inside.Goals as goal

-- the law of each call, after the tests that its step passed
pub returns : goal.returns
returns c (SlicedAxis a s) ns e = let p = all_passed _ _ _ e in c.maps_lead_inside.ensures.sliced ns a s (ltb-true a (length ns) p.0) (all_passed _ _ _ p.1).0
returns c (Sliced es) ns e = c.maps_lead_inside.ensures.listed ns es (and_parts (each_fits ns es) _ (list_fits ns es e)).0
returns c (Collapsed a k) ns e = let p = all_passed _ _ _ e in c.maps_lead_inside.ensures.collapsed ns a k (ltb-true k _ (all_passed _ _ _ p.1).0)
returns c (Indexed a k) ns e = let p = all_passed _ _ _ e in c.maps_lead_inside.ensures.indexed ns a k (ltb-true a (length ns) p.0) (ltb-true k _ (all_passed _ _ _ p.1).0)
returns c (Permuted axes) ns e = c.maps_lead_inside.ensures.permuted ns axes (HasEachAxis-test axes (length ns) (all_passed _ _ _ e).0)
returns c Reversed ns e = c.maps_lead_inside.ensures.reversed ns
returns c (Exchanged a b) ns e = let p = all_passed _ _ _ e in c.maps_lead_inside.ensures.swapped ns a b (ltb-true a (length ns) p.0) (ltb-true b (length ns) (all_passed _ _ _ p.1).0)
returns c (Inverted a) ns e = c.maps_lead_inside.ensures.inverted ns a (ltb-true a (length ns) (all_passed _ _ _ e).0)
returns c (Inserted a) ns e = c.maps_lead_inside.ensures.inserted ns a (leb-true a (length ns) (all_passed _ _ _ e).0)
returns c (Removed a) ns e = let p = all_passed _ _ _ e in c.maps_lead_inside.ensures.indexed ns a 0 (ltb-true a (length ns) p.0) (ltb-true 0 _ (all_passed _ _ _ p.1).0)
returns c Squeezed ns e = c.maps_lead_inside.ensures.squeezed ns
returns c Diagonal ns e = c.maps_lead_inside.ensures.diagonal ns
returns c (BroadcastTo to) ns e = c.maps_lead_inside.ensures.broadcast ns to (all_passed _ _ _ (all_passed _ _ _ e).1).0
