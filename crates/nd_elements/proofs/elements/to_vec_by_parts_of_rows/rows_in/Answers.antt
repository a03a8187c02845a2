use Rattle.nd_elements.proofs.NamesFromOtherCrates.{◌≡◌, ◌∙◌, arith, ranked, go_on, lane_of}
use Rattle.nd_elements.proofs.elements_lemmas.RowsByParts.{row_put}
use Rattle.nd_elements.proofs.elements.to_vec_by_parts_of_rows.rows_in.Goals as goal

pub loop-nth-preserved : goal.loop-nth-preserved
loop-nth-preserved c =
    let so_far = c.loop-nth.invariant in
    let lanes = c.loop-nth.lanes in
    let lane = c.in-Some.lane in
    let test = c.loop-nth-test.true in
    let given = c.in-Some.ensures.lane in
    let wide : lane.count ≡ c.args.width = c.if-lane-width.false in
    let put = row_put (ranked c.args.places) c.args.width c.loop-nth.rows c.loop-nth.nth lane (omega (arith, test, so_far.2)) so_far.3 wide lanes.rank so_far.1 (lane_of c.args.places lanes lane so_far.0 given.0).places in (
      go_on c.args.places lanes c.next.new.self so_far.0 c.in-Some.ensures.over,
      omega (arith, so_far.1, given.1, wide),
      put.0 ∙ so_far.2,
      put.1,
    )

pub returns-then-lanes-size : goal.returns-then-lanes-size
returns-then-lanes-size c some =
    let so_far = c.loop-nth.invariant in
    let lanes = c.loop-nth.lanes in
    let lane = c.in-Some.lane in
    let test = c.loop-nth-test.true in
    let given = c.in-Some.ensures.lane in
    let wide : lane.count ≡ c.args.width = c.if-lane-width.false in
    let all = c.if-lanes-size.true in
    let put = row_put (ranked c.args.places) c.args.width c.loop-nth.rows c.loop-nth.nth lane (omega (arith, test, so_far.2)) so_far.3 wide lanes.rank so_far.1 (lane_of c.args.places lanes lane so_far.0 given.0).places in
    record {
      some = omega arith;
      few = omega (arith, put.0, so_far.2, test);
      all = omega (arith, so_far.1, given.1, wide, all);
      each = put.1;
    }
