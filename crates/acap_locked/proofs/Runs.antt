-- The replay of a history is the run of its steps.
use Rattle.std.proofs.Common.{◌≡◌, List, [], ◌∷◌, map, get_or, drop, Result, Ok, Err, refl, sym, ap, ◌∙◌}
use Rattle.acap_commands.specs.declared.event.Fault.{Fault}
use Rattle.acap_commands.specs.declared.reply.Reply.{Reply}
use Rattle.acap_machine.specs.Machine.{Machine}
use Rattle.acap_machine.specs.Runs.{run_of, outcome_of, machine_after, stepped_at}
use Rattle.acap_locked.specs.declared.history_entry.HistoryEntry.{HistoryEntry}
use Rattle.acap_locked.specs.History.{IsReplay}
use Rattle.acap_locked.specs.Laws.{ReplayLaw, answer_in, step_in}

-- a run whose first step comes to q
abbrev on : Machine → Result (Reply × Machine) Fault → List HistoryEntry → List (Result Reply Fault) × Machine
on base q es = (outcome_of q ∷ (run_of (machine_after base q) (map step_in es)).0, (run_of (machine_after base q) (map step_in es)).1)

runs : (base machine : Machine) (es : List HistoryEntry) → IsReplay base es machine → run_of base (map step_in es) ≡ (map answer_in es, machine)
runs base machine [] r = ap (λ m. ([], m)) (sym r)
runs base machine (e ∷ es) r =
    ap (λ q. on base q es) r.1.step ∙ ap (λ p. (answer_in e ∷ p.0, p.1)) (runs r.0 machine es r.2)

abbrev reply_or : Reply → Result Reply Fault → Reply
reply_or other (Ok reply) = reply
reply_or other (Err fault) = other

apart : (fault : Fault) (reply : Reply) → outcome_of (Err fault) ≡ Ok reply → ⊥
apart fault reply e = cc

replays_by : (base machine : Machine) (e : HistoryEntry) (es : List HistoryEntry) → ((mid : Machine) → run_of mid (map step_in es) ≡ (map answer_in es, machine) → IsReplay mid es machine)
    → (q : Result (Reply × Machine) Fault) → stepped_at base (step_in e) ≡ q → on base q es ≡ (answer_in e ∷ map answer_in es, machine) → IsReplay base (e ∷ es) machine
replays_by base machine e es rest (Ok s) is f =
    let told : s.0 ≡ e.exchange.reply = ap (λ p. reply_or e.exchange.reply (get_or p.0 0 (answer_in e))) f in
    let behind = ap (λ rs. (rs, (run_of s.1 (map step_in es)).1)) (ap (λ p. drop 1 p.0) f) ∙ ap (λ m. (map answer_in es, m)) (ap (λ p. p.1) f) in
    (s.1, record { step = is ∙ ap (λ reply. Ok (reply, s.1)) told }, rest s.1 behind)
replays_by base machine e es rest (Err fault) is f = absurd (apart fault e.exchange.reply (ap (λ p. get_or p.0 0 (answer_in e)) f))

replays : (base machine : Machine) (es : List HistoryEntry) → run_of base (map step_in es) ≡ (map answer_in es, machine) → IsReplay base es machine
replays base machine [] f = ap (λ p. p.1) (sym f)
replays base machine (e ∷ es) f = replays_by base machine e es (λ mid. replays mid machine es) (stepped_at base (step_in e)) refl f

pub replay_law : ReplayLaw
replay_law = λ base machine es. (runs base machine es, replays base machine es)
