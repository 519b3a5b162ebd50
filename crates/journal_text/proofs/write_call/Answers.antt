-- `journal_text::write_call` meets its contract: the longest line has room, and its two parts behind each other are the line.
use Rattle.std.proofs.Common.{rules, arith, ◌≡◌, ℕ, ◌≤◌, List, length, sym, ap, ◌∙◌, length-append}
use Rattle.area.specs.Laid.{laid}
use Rattle.area.proofs.Laid.{laid_laid, laid_front}
use Rattle.journal.specs.JournalLine.{line_text, CallFits}
use Rattle.journal.specs.JournalParts.{call_head, call_tail}
use Rattle.journal.proofs.JournalLines.{text_parts}
use Rattle.journal_text.proofs.Lengths.{parts_short}
use Rattle.journal_text.proofs.Answers.{no_letter, short_area, line_written_lem}
use Rattle.journal_text.proofs.write_call.Goals as goal

pub returns-then-out-lt-LONGEST_JOURNAL_LINE : goal.returns-then-out-lt-LONGEST_JOURNAL_LINE
returns-then-out-lt-LONGEST_JOURNAL_LINE c =
    let letter = sym c.is_letter.ensures ∙ c.if-not-is_letter.false in
    let r = short_area c.args.c c.args.out.now letter (omega (arith, c.if-out-lt-LONGEST_JOURNAL_LINE.true)) in
    record { result_value = r.0; result_value_2 = r.1.0; out_after = r.1.1 }

pub put_head-at-requires : goal.put_head-at-requires
put_head-at-requires c =
    let letter = sym c.is_letter.ensures ∙ c.if-not-is_letter.false in
    let fits : CallFits c.args.c = search rules in
    omega (arith, parts_short c.args.c fits, c.if-out-lt-LONGEST_JOURNAL_LINE.false)

pub put_tail-requires : goal.put_tail-requires
put_tail-requires c =
    let letter = sym c.is_letter.ensures ∙ c.if-not-is_letter.false in
    let fits : CallFits c.args.c = search rules in
    omega (
      arith,
      parts_short c.args.c fits,
      c.if-out-lt-LONGEST_JOURNAL_LINE.false,
      c.put_head-at.ensures.value,
      c.put_head-at.auto.out,
    )

pub returns : goal.returns
returns c =
    let k = c.args.c in
    let out = c.args.out.now in
    let p = c.put_head-at in
    let q = c.put_tail in
    let letter = sym c.is_letter.ensures ∙ c.if-not-is_letter.false in
    let room = c.if-out-lt-LONGEST_JOURNAL_LINE.false in
    let fits : CallFits c.args.c = search rules in
    let size : q.result ≡ length (line_text k) =
    omega (arith, p.ensures.value, q.ensures.value, ap length (text_parts k), length-append (call_head k) (call_tail k)) in
    let whole : q.new.out ≡ laid out 0 (line_text k) =
    q.ensures.out_after
    ∙ ap (λ (l : List ℕ). laid l p.result (call_tail k)) p.ensures.out_after
    ∙ laid_laid out 0 p.result (call_head k) (call_tail k) (omega (arith, p.ensures.value))
    ∙ ap (laid out 0) (sym (text_parts k)) in
    let short : length (line_text k) ≤ length out =
    omega (arith, parts_short k fits, room, ap length (text_parts k), length-append (call_head k) (call_tail k)) in
    let r = line_written_lem k out q.new.out q.result letter (omega (arith, room)) size (whole ∙ laid_front out (line_text k) short) in
    record { result_value = r.0; result_value_2 = r.1.0; out_after = r.1.1 }

pub returns-then-not-is_letter : goal.returns-then-not-is_letter
returns-then-not-is_letter c =
    let r = no_letter c.args.c c.args.out.now (sym c.is_letter.ensures ∙ c.if-not-is_letter.true) in
    record { result_value = r.0; result_value_2 = r.1.0; out_after = r.1.1 }
