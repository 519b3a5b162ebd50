-- Where the buffer holds the next line and its reply has room, that line is the next text; behind the last text none follows.
use borrow.Author.Tests.{ltb-true, leb-true, not-true}
use Rattle.std.proofs.Common.{◌≡◌, false, not, refl, sym, ap, subst, length}
use Rattle.store.proofs.Choices.{not_both, and_parts}
use Rattle.playback_cursor.specs.declared.Cursor.{Cursor}
use Rattle.playback_cursor.specs.Cut.{replied, Followed}
use Rattle.playback_cursor.proofs.LinesFound.{line_here}
use Rattle.playback_cursor.proofs.Refills.{ended_lies}
use Rattle.playback_cursor.proofs.onward.Goals as goal

pub returns-then-cursor-used : goal.returns-then-cursor-used
returns-then-cursor-used c =
    let a = c.args in
    let told = and_parts _ _ c.if-cursor-used.true in
    let rest = and_parts _ _ told.1 in
    let last : a.cursor.last ≡ false = not-true _ c.if-not-cursor.true in
    let f =
    line_here (replied a.cursor a.text a.reply) a.buf.now c.requires.0 (ltb-true _ _ told.0) (length a.out.now)
    (not-true _ rest.0) last (leb-true _ _ rest.1) in
    record { lies = f.lies; next = λ _. f; none = λ e. not_both e last }

pub returns : goal.returns
returns c =
    let a = c.args in
    subst
    (λ (r : Cursor). Followed a.cursor a.text a.reply a.buf.now r a.buf.now (length a.out.now))
    (sym c.ended.ensures)
    (record {
      lies = ended_lies a.buf.now (length a.out.now) c.requires.2;
      next = λ e. not_both (ap not e) c.if-not-cursor.false;
      none = λ _. (refl, refl);
    })
