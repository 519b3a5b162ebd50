-- The statement on document 01's listing, computed, so that none of its words can come to be said of nothing: the opening is accepted, the
-- output is what the document prints, with the mean of document 02 (W1), one tentative result is struck, the R is due and then given, steps
-- settle and fewer do not, and two boxes agree for which everything differs that may.
use Rattle.std.specs.Prelude.{ℕ, ◌+◌, ◌≡◌, true, false, List, [], ◌∷◌, ◌++◌, replicate, Some, None}
use Rattle.record.specs.Layout.{bytes_of}
use Rattle.record.specs.Decoded.{decoded}
use Rattle.record.specs.Kinds.{is_tentative}
use Rattle.store.specs.Lists.{Every}
use Rattle.protocol.specs.Undos.{applied, struck, stable_records, done_due}
use Rattle.consistency.specs.Runs.{called, left_after, record_in}
use Rattle.consistency.specs.Accounts.{sent_in, boundaries_in}
use Rattle.consistency.specs.Demand.{is_opened, box_of, settings_in, account_of, output_of, failure_free_records, failure_free_bytes}
use Rattle.consistency.specs.Demand.{remaining, Steps}
use Rattle.protocol_examples.specs.Given.{settings}
use Rattle.consistency_examples.specs.Given.{arrived, handed, readings, step, late, fetches, acknowledges}
use Rattle.consistency_examples.specs.Given.{tentative, undo, stable, boundary, corrected, counting}
use Rattle.consistency_examples.specs.Given.{account_before, account_behind, account_shown}
use Rattle.consistency_examples.specs.Given.{twin, twin_calls, twin_account}

pub record Listing : Type 0 where
  -- the opening
  pub opened : is_opened handed
  pub opens_with : settings_in handed ≡ settings
  -- the output, in bytes: before the corrections, with the R due, and whole
  pub uncorrected : output_of handed readings ≡ tentative ∷ []
  pub correcting : output_of handed (readings ++ step ∷ step ∷ []) ≡ tentative ∷ undo ∷ stable ∷ boundary ∷ []
  pub whole : output_of handed (readings ++ step ∷ step ∷ step ∷ step ∷ []) ≡ tentative ∷ undo ∷ stable ∷ boundary ∷ corrected ∷ []
  -- undos applied: first the tentative result stands; then it is struck, and the stable one stands
  pub standing : applied record_in [] (tentative ∷ []) ≡ tentative ∷ []
  pub none_stable : stable_records record_in (tentative ∷ []) ≡ []
  pub standing_now : applied record_in [] (tentative ∷ undo ∷ stable ∷ boundary ∷ corrected ∷ []) ≡ stable ∷ []
  pub strikes : struck record_in [] (tentative ∷ undo ∷ stable ∷ boundary ∷ corrected ∷ []) ≡ tentative ∷ []
  pub one_stable : stable_records record_in (tentative ∷ undo ∷ stable ∷ boundary ∷ corrected ∷ []) ≡ stable ∷ []
  pub due : done_due record_in false (tentative ∷ undo ∷ stable ∷ boundary ∷ []) ≡ true
  pub done : done_due record_in false (tentative ∷ undo ∷ stable ∷ boundary ∷ corrected ∷ []) ≡ false
  -- on outputs that no box gives: a stable result that is struck is told, and not every one of a list with it is tentative; an R is due
  -- again behind a second U
  pub stable_struck : struck record_in [] (stable ∷ undo ∷ []) ≡ stable ∷ []
  pub is_tentative_then : is_tentative (record_in tentative).kind ≡ true
  pub is_tentative_now : is_tentative (record_in stable).kind ≡ false
  pub due_again : done_due record_in false (undo ∷ corrected ∷ undo ∷ []) ≡ true
  pub not_every : Every (λ (b : List ℕ). is_tentative (record_in b).kind ≡ true) (tentative ∷ stable ∷ []) → ⊥
  -- every piece is read as a record; 32 zero bytes are none
  pub records : Every (λ (b : List ℕ). decoded b ≡ Some (record_in b)) (tentative ∷ undo ∷ stable ∷ boundary ∷ corrected ∷ [])
  pub zeros : decoded (replicate 32 0) ≡ None
  -- the monitor: d is 0 and then 1, t is 1
  pub before : account_of handed readings ≡ account_before
  pub behind : account_of handed (readings ++ step ∷ step ∷ []) ≡ account_behind
  -- one bucket is left to work, and nothing is owed; two steps later none is, and the stable result is owed
  pub one_left : remaining handed readings ≡ 1
  pub none_owed : failure_free_bytes handed readings ≡ []
  pub none_left : remaining handed (readings ++ step ∷ step ∷ []) ≡ 0
  pub one_owed : failure_free_bytes handed (readings ++ step ∷ step ∷ []) ≡ stable ∷ []
  -- as a record it is read off its bytes; a count of 2^32 would be cut to 0
  pub owed_record : failure_free_records handed (readings ++ step ∷ step ∷ []) ≡ counting 2 ∷ []
  pub uncut : record_in (bytes_of (counting 2)) ≡ counting 2
  pub cut : record_in (bytes_of (counting 4294967296)) ≡ counting 0
  -- a reading that is late is refused
  pub late_answer : (called (left_after (box_of handed) readings) late).answer ≡ 12
  -- the display is given the record, but the output is not, and the monitor passes the calls over
  pub fetch_gives : (called (left_after (box_of handed) (readings ++ step ∷ step ∷ [])) fetches).records ≡ 1
  pub shown : account_of handed (readings ++ step ∷ step ∷ fetches ∷ acknowledges ∷ []) ≡ account_shown
  pub not_given_again :
      output_of handed (readings ++ step ∷ step ∷ fetches ∷ acknowledges ∷ step ∷ []) ≡
      tentative ∷ undo ∷ stable ∷ boundary ∷ corrected ∷ []
  -- so many steps, a refused call and the display's two calls among them
  pub steps :
      Steps (left_after (box_of handed) readings) (remaining handed readings + 2)
      (step ∷ late ∷ step ∷ fetches ∷ acknowledges ∷ step ∷ [])
  -- the twin: another day, the same settings, readings and boundaries, and the same stable result
  pub twin_opened : is_opened twin
  pub twin_opens_with : settings_in twin ≡ settings
  pub twin_behind : account_of twin twin_calls ≡ twin_account
  pub sent : sent_in (account_of handed (readings ++ step ∷ step ∷ [])) ≡ arrived 0 0
  pub twin_sent : sent_in (account_of twin twin_calls) ≡ arrived 0 0
  pub boundaries : boundaries_in (account_of handed (readings ++ step ∷ step ∷ [])) ≡ record { 0 = 100 } ∷ record { 0 = 100 } ∷ []
  pub twin_boundaries : boundaries_in (account_of twin twin_calls) ≡ record { 0 = 100 } ∷ record { 0 = 100 } ∷ []
  pub twin_none_left : remaining twin twin_calls ≡ 0
  pub twin_output : output_of twin twin_calls ≡ stable ∷ boundary ∷ []
