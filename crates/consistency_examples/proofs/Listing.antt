-- The table on document 01's listing: every row computes, without those of the host's tests that find nothing. Then the statement applied
-- to it: its conditions are met there.
use Prim.Native.Nat.{ℕ, suc, ◌+◌}
use mathlib.Core.Path.{◌≡◌, refl, sym, ◌∙◌, ap, ap₂, subst}
use mathlib.Core.Bool.{false, false≢true}
use mathlib.Core.List.{List, [], ◌∷◌, ◌++◌, map}
use native.Mathlib.Omega.{arith}
use lib.IntN.{pos}
use lib.ListN.{replicate}
use Rattle.std.specs.Prelude.{Some}
use Rattle.signed.specs.Twos.{twos}
use Rattle.endian.specs.LittleEndian.{little_endian}
use Rattle.settings.specs.declared.Settings.{Settings}
use Rattle.journal.specs.declared.Call.{Call}
use Rattle.journal.specs.ReadLine.{call_of}
use Rattle.protocol.specs.Kinds.{Kind, kind_of}
use Rattle.record.specs.Layout.{bytes_of}
use Rattle.protocol.specs.Monitor.{least_boundary, stable_buckets, left_to_work}
use Rattle.protocol.specs.FailureFree.{without_arrival, failure_free}
use Rattle.protocol.specs.Undos.{stable_records, done_due}
use Rattle.node.specs.Calls.{Called}
use Rattle.consistency.specs.Runs.{Box, Input, called, left, left_after, record_in}
use Rattle.consistency.specs.Accounts.{Account, sent_in, boundaries_in}
use Rattle.consistency.specs.Demand.{is_opened, box_of, settings_in, account_of, output_of, failure_free_records, failure_free_bytes}
use Rattle.consistency.specs.Demand.{remaining, Clean, Steps, Unchanged}
use Rattle.consistency.proofs.Theorem.{demand3}
use Rattle.protocol_examples.specs.Given.{settings}
use Rattle.consistency_examples.specs.Given.{bytes_in, store_of, lent_filled, settings_line, arrived, observed, handed, call, readings, step, late}
use Rattle.consistency_examples.specs.Given.{fetches, acknowledges, account_shown}
use Rattle.consistency_examples.specs.Given.{tentative, undo, stable, boundary, corrected, counting, account_before, account_behind}
use Rattle.consistency_examples.specs.Given.{twin, twin_call, twin_calls, twin_account}
use Rattle.consistency_examples.specs.Listing.{Listing}
use Rattle.consistency_examples.proofs.Surely.{surely, ran, account_is, output_is, call_is}
use Rattle.consistency_examples.proofs.Computed.{call_read, ran_from, read_from}

-- the step's fields
abbrev step_call : Call
step_call =
    record { now = record { 0 = 62 }; id = 0; time = record { 0 = 0 }; value = pos 0; line = 0; kind = 80; meter = 0 }

pub twelve : ◌≡◌ {A = ℕ} 12 0 → ⊥
twelve e = omega (arith, e)

-- ---- the openings, the accounts and the outputs

pub opened : is_opened handed
unfolding bytes_in store_of lent_filled settings_line handed ran_from is_opened
opened = refl

opens_with_lem : settings_in handed ≡ settings
unfolding bytes_in store_of lent_filled settings_line settings handed ran_from
opens_with_lem = refl

before_ran : (ran handed readings).account ≡ account_before
unfolding bytes_in store_of lent_filled settings_line handed call readings arrived observed account_before ran_from
before_ran = refl

before_is : account_of handed readings ≡ account_before
before_is = account_is handed opened readings ∙ before_ran

behind_ran : (ran handed (readings ++ step ∷ step ∷ [])).account ≡ account_behind
unfolding bytes_in store_of lent_filled settings_line handed call readings step arrived observed account_behind ran_from
behind_ran = refl

behind_is : account_of handed (readings ++ step ∷ step ∷ []) ≡ account_behind
behind_is = account_is handed opened (readings ++ step ∷ step ∷ []) ∙ behind_ran

twin_opened_lem : is_opened twin
unfolding bytes_in store_of lent_filled settings_line twin ran_from is_opened
twin_opened_lem = refl

twin_opens_with_lem : settings_in twin ≡ settings
unfolding bytes_in store_of lent_filled settings_line settings twin ran_from
twin_opens_with_lem = refl

twin_ran : (ran twin twin_calls).account ≡ twin_account
unfolding bytes_in store_of lent_filled settings_line twin twin_call twin_calls arrived observed twin_account ran_from
twin_ran = refl

twin_is : account_of twin twin_calls ≡ twin_account
twin_is = account_is twin twin_opened_lem twin_calls ∙ twin_ran

first_bytes : (ran handed readings).bytes ≡ tentative ∷ []
unfolding bytes_in store_of lent_filled settings_line handed call readings tentative ran_from
first_bytes = refl

next_bytes : (ran handed (readings ++ step ∷ step ∷ [])).bytes ≡ tentative ∷ undo ∷ stable ∷ boundary ∷ []
unfolding bytes_in store_of lent_filled settings_line handed call readings step tentative undo stable boundary ran_from
next_bytes = refl

all_bytes : (ran handed (readings ++ step ∷ step ∷ step ∷ step ∷ [])).bytes ≡ tentative ∷ undo ∷ stable ∷ boundary ∷ corrected ∷ []
unfolding bytes_in store_of lent_filled settings_line handed call readings step tentative undo stable boundary corrected ran_from
all_bytes = refl

twin_bytes : (ran twin twin_calls).bytes ≡ stable ∷ boundary ∷ []
unfolding bytes_in store_of lent_filled settings_line twin twin_call twin_calls stable boundary ran_from
twin_bytes = refl

pub one_left_lem : remaining handed readings ≡ 1
unfolding remaining left_to_work stable_buckets least_boundary settings arrived observed account_before
one_left_lem = ap₂ (λ (s : Settings) (a : Account). left_to_work s a.monitor) opens_with_lem before_is

-- ---- the steps

abbrev pub before : Box
before = left_after (box_of handed) readings

abbrev pub first : Box
first = left before step

abbrev pub passed : Box
passed = left first late

abbrev pub second : Box
second = left passed step

abbrev fetched : Box
fetched = left second fetches

abbrev pub shown : Box
shown = left fetched acknowledges

reads : call_of (bytes_in "now=62 line=0 kind=P id=0 time=0 meter=0 value=0\n") ≡ Some step_call
unfolding bytes_in call_read
reads = refl

is_step_lem : kind_of step_call.kind ≡ Kind.P
unfolding kind_of
is_step_lem = refl

first_ran : (surely (ran handed (readings ++ [])).box step).answer ≡ 0
unfolding bytes_in store_of lent_filled settings_line handed call readings step late fetches acknowledges ran_from
first_ran = refl

pub first_answer : (called before step).answer ≡ 0
unfolding left_after
first_answer = ap (λ (r : Called). r.answer) (call_is handed opened readings ([]) step) ∙ first_ran

late_ran : (surely (ran handed (readings ++ step ∷ [])).box late).answer ≡ 12
unfolding bytes_in store_of lent_filled settings_line handed call readings step late fetches acknowledges ran_from
late_ran = refl

pub late_answer_lem : (called first late).answer ≡ 12
unfolding left_after
late_answer_lem = ap (λ (r : Called). r.answer) (call_is handed opened readings (step ∷ []) late) ∙ late_ran

second_ran : (surely (ran handed (readings ++ step ∷ late ∷ [])).box step).answer ≡ 0
unfolding bytes_in store_of lent_filled settings_line handed call readings step late fetches acknowledges ran_from
second_ran = refl

pub second_answer : (called passed step).answer ≡ 0
unfolding left_after
second_answer = ap (λ (r : Called). r.answer) (call_is handed opened readings (step ∷ late ∷ []) step) ∙ second_ran

third_ran : (surely (ran handed (readings ++ step ∷ late ∷ step ∷ fetches ∷ acknowledges ∷ [])).box step).answer ≡ 0
unfolding bytes_in store_of lent_filled settings_line handed call readings step late fetches acknowledges ran_from
third_ran = refl

third_answer : (called shown step).answer ≡ 0
unfolding left_after
third_answer = ap (λ (r : Called). r.answer) (call_is handed opened readings (step ∷ late ∷ step ∷ fetches ∷ acknowledges ∷ []) step) ∙ third_ran

pub one_step : (b : Box) (n : ℕ) (is : List Input) → (called b step).answer ≡ 0 → Steps (left b step) n is → Steps b (suc n) (step ∷ is)
unfolding step call
one_step b n is accepted more =
    Steps.step (bytes_in "now=62 line=0 kind=P id=0 time=0 meter=0 value=0\n") (replicate 2080 0) step_call reads is_step_lem accepted more

-- the display's calls between steps
pub aside : (n : ℕ) (is : List Input) → Steps shown n is → Steps second n (fetches ∷ acknowledges ∷ is)
unfolding fetches acknowledges
aside n is more = Steps.fetch 1 1 (replicate 2080 0) (Steps.acknowledge 1 1 (replicate 2080 0) more)

pub three_steps_lem : Steps before 3 (step ∷ late ∷ step ∷ fetches ∷ acknowledges ∷ step ∷ [])
three_steps_lem =
    one_step before 2 (late ∷ step ∷ fetches ∷ acknowledges ∷ step ∷ []) first_answer
    (Steps.refused {b = first} {n = 2} {is = step ∷ fetches ∷ acknowledges ∷ step ∷ []} late (λ e. twelve (sym late_answer_lem ∙ e))
    (one_step passed 1 (fetches ∷ acknowledges ∷ step ∷ []) second_answer
    (aside 1 (step ∷ []) (one_step shown 0 [] third_answer (Steps.rest {b = left shown step})))))

enough_steps : Steps before (remaining handed readings + 2) (step ∷ late ∷ step ∷ fetches ∷ acknowledges ∷ step ∷ [])
enough_steps =
    subst (λ (n : ℕ). Steps before (n + 2) (step ∷ late ∷ step ∷ fetches ∷ acknowledges ∷ step ∷ [])) (sym one_left_lem) three_steps_lem

-- ---- the refused call, and the display's calls

too_late_ran : (surely (ran handed (readings ++ [])).box late).answer ≡ 12
unfolding bytes_in store_of lent_filled settings_line handed call readings late ran_from
too_late_ran = refl

too_late : (called before late).answer ≡ 12
unfolding left_after
too_late = ap (λ (r : Called). r.answer) (call_is handed opened readings [] late) ∙ too_late_ran

fetch_ran : (surely (ran handed ((readings ++ step ∷ step ∷ []) ++ [])).box fetches).records ≡ 1
unfolding bytes_in store_of lent_filled settings_line handed call readings step fetches ran_from
fetch_ran = refl

fetch_gives_lem : (called (left_after (box_of handed) (readings ++ step ∷ step ∷ [])) fetches).records ≡ 1
unfolding left_after
fetch_gives_lem = ap (λ (r : Called). r.records) (call_is handed opened (readings ++ step ∷ step ∷ []) [] fetches) ∙ fetch_ran

shown_ran : (ran handed (readings ++ step ∷ step ∷ fetches ∷ acknowledges ∷ [])).account ≡ account_shown
unfolding bytes_in store_of lent_filled settings_line handed call readings step fetches acknowledges ran_from arrived observed account_behind account_shown
shown_ran = refl

shown_bytes :
    (ran handed (readings ++ step ∷ step ∷ fetches ∷ acknowledges ∷ step ∷ [])).bytes ≡ tentative ∷ undo ∷ stable ∷ boundary ∷ corrected ∷ []
unfolding bytes_in store_of lent_filled settings_line handed call readings step fetches acknowledges tentative undo stable boundary corrected ran_from
shown_bytes = refl

-- ---- whole

none_owed_lem : failure_free_bytes handed readings ≡ []
unfolding failure_free_records failure_free_bytes failure_free account_before
none_owed_lem = ap₂ (λ (s : Settings) (a : Account). map bytes_of (failure_free s a.stables a.monitor.d).records) opens_with_lem before_is

one_record : failure_free_records handed (readings ++ step ∷ step ∷ []) ≡ counting 2 ∷ []
unfolding failure_free_records failure_free settings arrived account_behind counting ran_from
one_record = ap₂ (λ (s : Settings) (a : Account). (failure_free s a.stables a.monitor.d).records) opens_with_lem behind_is

one_owed_lem : failure_free_bytes handed (readings ++ step ∷ step ∷ []) ≡ stable ∷ []
unfolding failure_free_bytes counting bytes_of little_endian twos stable
one_owed_lem = ap (map bytes_of) one_record

read_back : record_in (bytes_of (counting 2)) ≡ counting 2
unfolding counting bytes_of little_endian twos read_from
read_back = refl

cut_to_0 : record_in (bytes_of (counting 4294967296)) ≡ counting 0
unfolding counting bytes_of little_endian twos read_from
cut_to_0 = refl

none_left_lem : remaining handed (readings ++ step ∷ step ∷ []) ≡ 0
unfolding remaining left_to_work stable_buckets least_boundary settings observed account_behind
none_left_lem = ap₂ (λ (s : Settings) (a : Account). left_to_work s a.monitor) opens_with_lem behind_is

twin_none_left_lem : remaining twin twin_calls ≡ 0
unfolding remaining left_to_work stable_buckets least_boundary settings observed twin_account
twin_none_left_lem = ap₂ (λ (s : Settings) (a : Account). left_to_work s a.monitor) twin_opens_with_lem twin_is

sent_is : sent_in account_behind ≡ arrived 0 0
unfolding sent_in without_arrival arrived account_behind
sent_is = refl

twin_sent_is : sent_in twin_account ≡ arrived 0 0
unfolding sent_in without_arrival arrived twin_account
twin_sent_is = refl

boundaries_are : boundaries_in account_behind ≡ record { 0 = 100 } ∷ record { 0 = 100 } ∷ []
unfolding boundaries_in observed account_behind
boundaries_are = refl

twin_boundaries_are : boundaries_in twin_account ≡ record { 0 = 100 } ∷ record { 0 = 100 } ∷ []
unfolding boundaries_in observed twin_account
twin_boundaries_are = refl

pub listing : Listing
unfolding left_after tentative undo stable boundary corrected read_from
listing =
    record {
      opened = opened;
      opens_with = opens_with_lem;
      uncorrected = output_is handed opened readings ∙ first_bytes;
      correcting = output_is handed opened (readings ++ step ∷ step ∷ []) ∙ next_bytes;
      whole = output_is handed opened (readings ++ step ∷ step ∷ step ∷ step ∷ []) ∙ all_bytes;
      standing = refl;
      none_stable = refl;
      standing_now = refl;
      strikes = refl;
      one_stable = refl;
      due = refl;
      done = refl;
      stable_struck = refl;
      is_tentative_then = refl;
      is_tentative_now = refl;
      due_again = refl;
      not_every = λ every. false≢true every.1.0;
      records = (refl, (refl, (refl, (refl, (refl, tt)))));
      zeros = refl;
      before = before_is;
      behind = behind_is;
      one_left = one_left_lem;
      none_owed = none_owed_lem;
      none_left = none_left_lem;
      one_owed = one_owed_lem;
      owed_record = one_record;
      uncut = read_back;
      cut = cut_to_0;
      late_answer = too_late;
      fetch_gives = fetch_gives_lem;
      shown = account_is handed opened (readings ++ step ∷ step ∷ fetches ∷ acknowledges ∷ []) ∙ shown_ran;
      not_given_again = output_is handed opened (readings ++ step ∷ step ∷ fetches ∷ acknowledges ∷ step ∷ []) ∙ shown_bytes;
      steps = enough_steps;
      twin_opened = twin_opened_lem;
      twin_opens_with = twin_opens_with_lem;
      twin_behind = twin_is;
      sent = ap sent_in behind_is ∙ sent_is;
      twin_sent = ap sent_in twin_is ∙ twin_sent_is;
      boundaries = ap boundaries_in behind_is ∙ boundaries_are;
      twin_boundaries = ap boundaries_in twin_is ∙ twin_boundaries_are;
      twin_none_left = twin_none_left_lem;
      twin_output = output_is twin twin_opened_lem twin_calls ∙ twin_bytes;
    }

-- ---- the theorem there

-- the two boxes' stable records
agreed : stable_records record_in (output_of handed (readings ++ step ∷ step ∷ [])) ≡ stable_records record_in (output_of twin twin_calls)
agreed =
    demand3.replicas handed twin listing.opened listing.twin_opened (opens_with_lem ∙ sym twin_opens_with_lem)
    (readings ++ step ∷ step ∷ []) twin_calls (listing.sent ∙ sym listing.twin_sent) (listing.boundaries ∙ sym listing.twin_boundaries)
    listing.none_left listing.twin_none_left

-- the steps, a refused call and the display's calls among them
settled :
    (remaining handed (readings ++ step ∷ late ∷ step ∷ fetches ∷ acknowledges ∷ step ∷ []) ≡ 0) ×
    (done_due record_in false (output_of handed (readings ++ step ∷ late ∷ step ∷ fetches ∷ acknowledges ∷ step ∷ [])) ≡ false)
settled = demand3.settles handed listing.opened readings (step ∷ late ∷ step ∷ fetches ∷ acknowledges ∷ step ∷ []) listing.steps

-- the corrections, and the refused call
cleaned : Clean handed (readings ++ step ∷ step ∷ [])
cleaned = demand3.clean handed listing.opened (readings ++ step ∷ step ∷ [])

unmoved : Unchanged first late
unmoved = demand3.refused first late (λ e. twelve (sym late_answer_lem ∙ e))

-- and that no call finds a short store or a state out of shape
sound : ((called before late).answer ≡ 3 → ⊥) × ((called before late).answer ≡ 4 → ⊥)
sound = demand3.in_shape handed listing.opened readings late
