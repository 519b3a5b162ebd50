-- From an accepted opening on: the box stands for the node as opened, and a list of calls has the account and, in bytes, the output of a
-- run on the meaning.
use Prim.Native.Nat.{◌<◌}
use mathlib.Core.Path.{◌≡◌, refl, sym, ◌∙◌, ap, subst}
use mathlib.Core.List.{List, map}
use native.Mathlib.Omega.{arith}
use Rattle.settings.specs.declared.Settings.{Settings}
use Rattle.record.specs.Layout.{bytes_of}
use Rattle.store.specs.Lists.{Every}
use Rattle.protocol.specs.Node.{opened}
use Rattle.protocol.specs.FailureFree.{failure_free}
use Rattle.protocol.specs.Runs.{Trace, start, after}
use Rattle.protocol.specs.Demand.{stable_results}
use Rattle.node.proofs.Limits.{Limits}
use Rattle.node.proofs.Opening as opening
use Rattle.node.proofs.Fits.{opened_fits}
use Rattle.node.proofs.Records.{Decodes}
use Rattle.consistency.specs.Runs.{Input}
use Rattle.consistency.specs.Accounts.{Account, empty_account}
use Rattle.consistency.specs.Demand.{Handed, opening as openingOf, is_opened, box_of, settings_in, account_of, output_of}
use Rattle.consistency.specs.Demand.{failure_free_records, failure_free_bytes}
use Rattle.consistency.proofs.Runs.{Stands, account_in, events_of, runs}

-- what an accepted opening leaves stands for the node as opened
pub box_stands : (h : Handed) → is_opened h → Stands (settings_in h) (box_of h).state (box_of h).lent (opened (settings_in h))
unfolding is_opened settings_in box_of openingOf
box_stands h e =
    let o = opening.opened_on_lem h.state h.lent h.text e in
    record {
      settings = refl;
      is =
          opening.opened_view h.state h.lent h.text o ∙
          ap opened (sym (opening.opened_settings h.state h.lent h.text o));
      room = opening.opened_fits h.state h.lent h.text o;
      fits = opened_fits (settings_in h);
    }

pub settings_limits : (h : Handed) → is_opened h → Limits (settings_in h)
unfolding is_opened settings_in openingOf
settings_limits h e =
    let o = opening.opened_on_lem h.state h.lent h.text e in
    subst Limits (sym (opening.opened_settings h.state h.lent h.text o)) (opening.opened_limits h.state h.lent h.text o)

pub some_bucket : (h : Handed) → is_opened h → 0 < (settings_in h).bucket
some_bucket h e = omega (arith, (settings_limits h e).least_bucket)

pub some_lines_lem : (h : Handed) → is_opened h → 0 < (settings_in h).lines
some_lines_lem h e = omega (arith, (settings_limits h e).some_lines)

-- the run on the meaning
abbrev pub trace_of : Settings → Handed → List Input → Trace
trace_of s h is = after s (start s) (events_of (box_of h) is)

-- it has the account and, in bytes, the output
pub record Mirrors (s : Settings) (h : Handed) (is : List Input) : Type 0 where
  pub account : account_of h is ≡ account_in (trace_of s h is)
  pub decode : Every Decodes (trace_of s h is).output
  pub laid : output_of h is ≡ map bytes_of (trace_of s h is).output

pub mirrors : (h : Handed) → is_opened h → (is : List Input) → Mirrors (settings_in h) h is
unfolding account_of output_of empty_account account_in start
mirrors h e is =
    let run = runs (settings_in h) is (start (settings_in h)) (box_of h) (box_stands h e) in
    record {
      account = run.account;
      decode = rw run.given run.decode;
      laid = run.laid ∙ ap (map bytes_of) (sym run.given);
    }

-- and its stable results are the failure-free ones
pub free_records :
    (h : Handed) (is : List Input) → Mirrors (settings_in h) h is →
    failure_free_records h is ≡ stable_results (settings_in h) (trace_of (settings_in h) h is)
unfolding failure_free_records stable_results account_in
free_records h is m = ap (λ (a : Account). (failure_free (settings_in h) a.stables a.monitor.d).records) m.account

pub free_bytes :
    (h : Handed) (is : List Input) → Mirrors (settings_in h) h is →
    failure_free_bytes h is ≡ map bytes_of (stable_results (settings_in h) (trace_of (settings_in h) h is))
unfolding failure_free_bytes
free_bytes h is m = ap (map bytes_of) (free_records h is m)
