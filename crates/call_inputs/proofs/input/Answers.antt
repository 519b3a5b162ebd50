-- `call_inputs::input` meets its contract: each way out is the law of its kind, on what `place` or `cut` ensure.
use Rattle.std.proofs.Common.{◌≡◌, ◌<◌, true, arith}
use lib.Dec.{leb}
use Rattle.store.specs.declared.Reading.{Reading}
use Rattle.store.specs.Sizes.{readings_per_line}
use Rattle.store.specs.Columns.{store_length, rows_from}
use Rattle.store.specs.Lent.{columns}
use Rattle.store.proofs.Columns.{length_rows_from}
use Rattle.store.proofs.Keeping.{length_keep}
use Rattle.call_inputs.proofs.OneInput.{is_reading, reading_letter, other_letter, place_free, reading_done, undo_done, other_done}
use Rattle.call_inputs.proofs.input.Goals.{in_default-via-then-k-lt83, in_default-via-else-k-lt83+else-k-lt85}
use Rattle.call_inputs.proofs.input.Goals as goal

pub overflow_add-base : goal.overflow_add-base
unfolding store_length
overflow_add-base c = omega (arith, c.requires.0, c.requires.1)

pub place-requires : goal.place-requires
place-requires c =
    let a = c.args in
    let reading : is_reading a.k.kind ≡ true = reading_letter a.k.kind (omega arith) (omega arith) in
    let free : a.head.kept < readings_per_line =
    place_free a.head (columns a.readings.now) a.base c.requires.1 a.k.kind reading c.requires.2 in
    omega (arith, c.requires.0, free)

pub head_with-requires : goal.head_with-requires
head_with-requires c =
    let a = c.args in
    let reading : is_reading a.k.kind ≡ true = reading_letter a.k.kind (omega arith) (omega arith) in
    place_free a.head (columns a.readings.now) a.base c.requires.1 a.k.kind reading c.requires.2

pub returns-in-83-clause-taken : goal.returns-in-83-clause-taken
returns-in-83-clause-taken c =
    let a = c.args in
    let reading : is_reading a.k.kind ≡ true = reading_letter a.k.kind (omega arith) (omega arith) in
    reading_done a.head (columns a.readings.now) a.base a.k c.requires.1 {y = columns c.place.new.store} c.reading_of.ensures
    c.place.ensures.placed reading c.head_with.ensures

pub head_cut-requires : goal.head_cut-requires
head_cut-requires c =
    let a = c.args in
    let kept = rows_from (columns a.readings.now) a.base a.head.kept in
    omega (
      arith,
      c.cut-left.ensures.kept.0,
      length_keep (λ (q : Reading). leb q.id a.k.id) kept,
      length_rows_from (columns a.readings.now) a.base a.head.kept,
      c.requires.1,
    )

pub returns-in-85-clause-taken : goal.returns-in-85-clause-taken
returns-in-85-clause-taken c =
    let a = c.args in
    undo_done a.head (columns a.readings.now) a.base a.k c.requires.1 {y = columns c.cut-left.new.store} c.cut-left.ensures.kept.0
    c.cut-left.ensures.kept.1 c.in-85.is c.head_cut.ensures

pub returns-in_default-clause-taken : goal.returns-in_default-clause-taken
returns-in_default-clause-taken c =
    let a = c.args in
    (elim c.in_default.branch [
      | in_default-via-then-k-lt83 w ↦
          other_done a.head (columns a.readings.now) a.base a.k c.requires.1
          (other_letter a.k.kind (λ e. omega arith) (λ e. omega arith)) (λ e. omega arith) c.head_at.ensures
      | in_default-via-else-k-lt83+else-k-lt85 w ↦
          other_done a.head (columns a.readings.now) a.base a.k c.requires.1
          (other_letter a.k.kind (λ e. omega arith) (λ e. omega arith)) (λ e. omega arith) c.head_at.ensures
    ])
