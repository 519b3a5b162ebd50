-- The reader is exact: a text is read as a command exactly if it is the command's line, whole. A line begins with its word, so that no text
-- is the line of two commands.
use mathlib.Core.Path.{◌≡◌, refl, sym, ap, subst, ◌∙◌}
use mathlib.Core.Logic.{◌↔◌}
use mathlib.Core.Bool.{true, false, true≢false}
use mathlib.Core.List.{List, ◌++◌}
use Prim.Native.Nat.{ℕ, ◌-◌}
use native.Mathlib.Omega.{arith}
use lib.ListN.{length, get_or}
use Rattle.std.specs.Prelude.{Option, Some, None}
use Rattle.fields.specs.Keys.{display_key}
use Rattle.fields.specs.Line.{line_of}
use Rattle.fields.specs.Field.{later, ends_line}
use Rattle.fields.proofs.Fields.{line_ends}
use Rattle.commands.specs.CommandLine.{ack_word, fetch_word, display_text, acknowledge_text, fetch_text, IsLine, ExactCommand}
use Rattle.commands.specs.ReadLine.{display_line_of, or_else, command_of}
use Rattle.commands.specs.declared.Command.{Command}
use Rattle.commands.proofs.CommandLines.{line_exact}

-- the command of the two lines that may have been read
abbrev command : Option (ℕ × ℕ) → Option (ℕ × ℕ) → Option Command
command acknowledge fetch = or_else acknowledge Command.Acknowledge (or_else fetch Command.Fetch None)

from_acknowledge : (x y : Option (ℕ × ℕ)) (display id : ℕ) → command x y ≡ Some (Command.Acknowledge display id) → x ≡ Some (display, id)
unfolding or_else
from_acknowledge (Some (d, i)) y display id q = cc
from_acknowledge None (Some (d, i)) display id q = cc
from_acknowledge None None display id q = cc

from_fetch : (x y : Option (ℕ × ℕ)) (display id : ℕ) → command x y ≡ Some (Command.Fetch display id) → y ≡ Some (display, id)
unfolding or_else
from_fetch (Some (d, i)) y display id q = cc
from_fetch None (Some (d, i)) display id q = cc
from_fetch None None display id q = cc

-- the two lines differ in their first byte
two_words : (d i e j : ℕ) → acknowledge_text d i ≡ fetch_text e j → ⊥
unfolding acknowledge_text fetch_text display_text line_of
two_words d i e j q = let b : ◌≡◌ {A = ℕ} 97 102 = ap (λ (t : List ℕ). get_or t 0 0) q in omega arith

module _ (text : List ℕ) where
  abbrev acknowledges : Option (ℕ × ℕ)
  acknowledges = display_line_of (ack_word ++ later display_key) text

  abbrev fetches : Option (ℕ × ℕ)
  fetches = display_line_of (fetch_word ++ later display_key) text

  acknowledge_exact : (display id : ℕ) → (command_of text ≡ Some (Command.Acknowledge display id)) ↔ IsLine acknowledge_text text display id
  unfolding command_of or_else acknowledge_text
  acknowledge_exact display id =
      let line = line_exact ack_word text display id in
      (λ q. line.0 (from_acknowledge acknowledges fetches display id q), λ is. rw (line.1 is))

  no_acknowledge : (display id : ℕ) → text ≡ fetch_text display id → (x : Option (ℕ × ℕ)) → acknowledges ≡ x → x ≡ None
  unfolding acknowledge_text
  no_acknowledge display id p (Some (d, i)) q = absurd (two_words d i display id (sym ((line_exact ack_word text d i).0 q).2 ∙ p))
  no_acknowledge display id p None q = refl

  fetch_exact : (display id : ℕ) → (command_of text ≡ Some (Command.Fetch display id)) ↔ IsLine fetch_text text display id
  unfolding command_of or_else fetch_text
  fetch_exact display id =
      let line = line_exact fetch_word text display id in
      (λ q. line.0 (from_fetch acknowledges fetches display id q), λ is. rw (no_acknowledge display id is.2 acknowledges refl, line.1 is))

  pub exact_command : ExactCommand text (command_of text)
  exact_command = record { acknowledge = acknowledge_exact; fetch = fetch_exact }

  -- an answer that is the definition's is exact
  pub exact : (answer : Option Command) → answer ≡ command_of text → ExactCommand text answer
  exact answer q = subst (ExactCommand text) (sym q) exact_command

-- a text that does not end with 0A is no command's line
module _ (text : List ℕ) (n : ends_line text (length text - 1) ≡ false) where
  no_text : (word : List ℕ) (display id : ℕ) → text ≡ display_text word display id → ⊥
  unfolding display_text
  no_text word display id p =
      let ends : ends_line text (length text - 1) ≡ true = rw p (line_ends _) in
      true≢false (sym ends ∙ n)

  only_none : (answer : Option Command) → ExactCommand text answer → answer ≡ None
  unfolding acknowledge_text fetch_text
  only_none (Some (Command.Acknowledge d i)) exact = absurd (no_text ack_word d i ((exact.acknowledge d i).0 refl).2)
  only_none (Some (Command.Fetch d i)) exact = absurd (no_text fetch_word d i ((exact.fetch d i).0 refl).2)
  only_none None exact = refl

  pub not_line : command_of text ≡ None
  not_line = only_none (command_of text) (exact_command text)
