-- Rule 2 in two halves: bucket c is worked, then its readings are taken out of the lines.
use Rattle.std.specs.Prelude.{ℕ, ◌*◌, ◌≡◌, List, map, length}
use Rattle.area.specs.Laid.{in_front}
use Rattle.settings.specs.declared.Settings.{Settings}
use Rattle.record.specs.Layout.{all_bytes}
use Rattle.store.specs.Sizes.{readings_per_line}
use Rattle.store.specs.Columns.{Columns, rows, with_rows}
use Rattle.protocol.specs.declared.Rule.TheVariants as Rule
use Rattle.protocol.specs.Node.{Line}
use Rattle.protocol.specs.Rules.{without, act}
use Rattle.node.specs.declared.LineHead.{LineHead}
use Rattle.node.specs.Held.{Held, with_operator}
use Rattle.node.specs.View.{view_lines, view, heads_with, shares_with}

-- the rule's operator and records: the bucket's results, and the boundary behind them where it closes a window; nothing else changes
pub record StableWorked (st : Held) (x : Columns) (area : List ℕ) (st' : Held) (area' : List ℕ) (records : ℕ) : Type 0 where
  pub state : st' ≡ with_operator (act st.settings (view st x) Rule.WorkStable).node.operator st
  pub bytes : area' ≡ in_front (all_bytes (act st.settings (view st x) Rule.WorkStable).records) area
  pub count : records ≡ length (act st.settings (view st x) Rule.WorkStable).records

-- the lines of these heads and this store, without the readings of bucket j
abbrev pub lines_without : Settings → ℕ → List LineHead → Columns → List Line
lines_without s j heads x = map (without s j) (view_lines s.lines heads (rows x (s.lines * readings_per_line)))

-- those lines laid into heads and store
pub record ReadingsRemoved (s : Settings) (j : ℕ) (heads : List LineHead) (x : Columns) (heads' : List LineHead) (x' : Columns)
    : Type 0 where
  pub line_heads : heads' ≡ heads_with heads (lines_without s j heads x)
  pub columns : x' ≡ with_rows x (shares_with heads (rows x (s.lines * readings_per_line)) (lines_without s j heads x))
