-- `step_stable::remove` meets its contract: the loop takes the lines one by one, and what is left comes to the same.
use Rattle.std.proofs.Common.{◌≡◌, ◌*◌, ◌≤◌, ◌<◌, refl, ◌∙◌, [], length, length-set, get_or, arith, rules}
use Rattle.settings.specs.Limits.{max_lines}
use Rattle.store.specs.Sizes.{readings_per_line}
use Rattle.store.specs.Columns.{Columns, store_length, rows}
use Rattle.store.specs.Lent.{columns}
use Rattle.store_columns.proofs.Written.{store_length_same}
use Rattle.protocol.specs.Node.{no_line}
use Rattle.node.specs.declared.LineHead.{LineHead}
use Rattle.node.specs.View.{head_of}
use Rattle.step_stable.proofs.Removed.{
  length_others,
  removing_start,
  own_small,
  removing_turn,
  removing_heads,
  removing_store,
  store_front,
}
use Rattle.step_stable.proofs.remove.Goals as goal

pub loop-i-init : goal.loop-i-init
loop-i-init c =
    let a = c.args in
    let enough : length c.args.heads.now ≡ max_lines = search rules in
    record {
      heads = enough;
      removing = removing_start a.s a.j a.heads.now (columns a.readings.now) (omega (arith, enough, c.requires.0)) c.requires.3;
      loans = (refl, refl, refl, refl, refl, refl);
    }

pub remove_bucket-left-requires : goal.remove_bucket-left-requires
unfolding head_of no_line
remove_bucket-left-requires c =
    let a = c.args in
    let l = c.loop-i in
    let was : Columns = columns a.readings.now in
    let now : Columns = columns l.readings in
    let below : c.loop-i.i < c.args.s.lines = c.loop-i-test.true in
    -- the line keeps no more readings than its share has places
    let own : LineHead = get_or c.loop-i.heads c.loop-i.i (head_of no_line) in
    let small : own.kept ≤ readings_per_line =
    own_small a.s a.j a.heads.now was l.heads now l.i l.invariant.removing (head_of no_line) own refl below in
    let room : a.s.lines * readings_per_line ≤ store_length now =
    omega (arith, c.requires.2, store_length_same now was l.invariant.removing.lengths) in
    (c.requires.1, small, omega (arith, small, below, c.requires.0), omega (arith, room, small, below))

pub overflow_cast-heads : goal.overflow_cast-heads
unfolding head_of no_line
overflow_cast-heads c =
    let a = c.args in
    let l = c.loop-i in
    let was : Columns = columns a.readings.now in
    let now : Columns = columns l.readings in
    let below : c.loop-i.i < c.args.s.lines = c.loop-i-test.true in
    let own : LineHead = get_or c.loop-i.heads c.loop-i.i (head_of no_line) in
    let small : own.kept ≤ readings_per_line =
    own_small a.s a.j a.heads.now was l.heads now l.i l.invariant.removing (head_of no_line) own refl below in
    omega (arith, c.remove_bucket-left.ensures.kept.0, small, length_others a.s a.j now (l.i * readings_per_line) 0 own [] small)

pub loop-i-preserved : goal.loop-i-preserved
unfolding head_of no_line
loop-i-preserved c =
    let a = c.args in
    let l = c.loop-i in
    let was : Columns = columns a.readings.now in
    let now : Columns = columns l.readings in
    let below : c.loop-i.i < c.args.s.lines = c.loop-i-test.true in
    let own : LineHead = get_or c.loop-i.heads c.loop-i.i (head_of no_line) in
    -- its share has closed up
    let r = c.remove_bucket-left in
    record {
      removing =
          removing_turn a.s a.j a.heads.now was l.heads now l.i l.invariant.removing (head_of no_line) own refl below r.result _
          (columns r.new.store) refl r.ensures.kept.0 r.ensures.kept.1;
      heads = length-set l.heads l.i _ ∙ l.invariant.heads;
      loans = (
        r.ensures.same_loans.0 ∙ l.invariant.loans.0,
        r.ensures.same_loans.1 ∙ l.invariant.loans.1,
        r.ensures.same_loans.2 ∙ l.invariant.loans.2,
        r.ensures.same_loans.3 ∙ l.invariant.loans.3,
        r.ensures.same_loans.4 ∙ l.invariant.loans.4,
        r.ensures.same_loans.5 ∙ l.invariant.loans.5,
      );
    }

pub returns : goal.returns
unfolding rows
returns c =
    let a = c.args in
    let l = c.loop-i in
    let was : Columns = columns a.readings.now in
    let now : Columns = columns l.readings in
    let enough : a.s.lines ≤ length a.heads.now = omega (arith, c.told-heads, c.requires.0) in
    record {
      same_loans = l.invariant.loans;
      all_heads = l.invariant.heads;
      removed =
          record {
            line_heads = removing_heads a.s a.j a.heads.now was l.heads now l.i l.invariant.removing c.loop-i-test.false;
            columns =
                removing_store a.s a.j a.heads.now was l.heads now l.i l.invariant.removing c.loop-i-test.false ∙
                store_front a.s a.j a.heads.now was enough c.requires.3 c.requires.2;
          };
    }
