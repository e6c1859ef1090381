-- What every step keeps, and what each change is.
use Rattle.std.proofs.Common.{◌≡◌, ◌⊎◌, inl, inr, ℕ, ℤ, List, Option, Some, None, Ok, refl, subst, ap, option_map}
use Rattle.acap_commands.specs.declared.command.Command.{Command}
use Rattle.acap_commands.specs.declared.event.Event.{Event}
use Rattle.acap_commands.specs.declared.event.Event.TheVariants as event
use Rattle.acap_commands.specs.declared.reply.Reply.{Reply}
use Rattle.acap_commands.specs.declared.said.Said.TheVariants as said
use Rattle.acap_machine.specs.Laws.{RefusedLaw, OthersLaw, ChangeLaw, IsChange, OthersStay}
use Rattle.acap_machine.specs.Machine.{Machine, user_at}
use Rattle.acap_machine.specs.Serving.{answer_to}
use Rattle.acap_machine.specs.Stepping.{step_of, plain, reply_of, enter_answer, by_user, drained_at, left_at}
use Rattle.acap_machine.proofs.ServedLemmas.{Keeps, served_keeps}
use Rattle.acap_machine.proofs.SeatLemmas.{entered_else, left_else, opened_else, freed_else, told_else, drained_else, opened_users, freed_users, told_users, drained_users, changed_users}
use Rattle.acap_store.proofs.StoreLaws.{later_law}
use Rattle.acap_views.specs.Seats.{with_user}

-- ---- what holds of each thing that a step may do holds of the step

pub seated_keeps : (P : Reply → Machine → Type 0) (m : Machine) (seat : ℕ) (user : List ℕ) (at : Option (List ℕ)) (reply : Reply) (new : Machine) →
    P (plain said.Greeting) (record m { seats = with_user m.seats seat user }) → enter_answer m seat user at ≡ Ok (reply, new) → P reply new
seated_keeps P m seat user None reply new p e =
    let entered_is : Reply × Machine = (plain said.Greeting, record m { seats = with_user m.seats seat user }) in
    let told : Reply × Machine = (reply, new) in
    let same : entered_is ≡ told = cc in
    subst (λ (r : Reply × Machine). P r.0 r.1) same p
seated_keeps P m seat user (Some other) reply new p e = cc

by_keeps_of : (P : Reply → Machine → Type 0) (at : Option (List ℕ)) (name : Option (List ℕ)) (does : List ℕ → Reply × Machine) (reply : Reply) (new : Machine) →
    at ≡ name → ((user : List ℕ) → at ≡ Some user → P (does user).0 (does user).1) → by_user name does ≡ Ok (reply, new) → P reply new
by_keeps_of P at None does reply new a p e = cc
by_keeps_of P at (Some user) does reply new a p e =
    let told : Reply × Machine = (reply, new) in
    let same : does user ≡ told = cc in
    subst (λ (r : Reply × Machine). P r.0 r.1) same (p user a)

pub by_keeps : (P : Reply → Machine → Type 0) (at : Option (List ℕ)) (does : List ℕ → Reply × Machine) (reply : Reply) (new : Machine) →
    ((user : List ℕ) → at ≡ Some user → P (does user).0 (does user).1) → by_user at does ≡ Ok (reply, new) → P reply new
by_keeps P at does reply new p e = by_keeps_of P at at does reply new refl p e

pub record KeepsStep (P : Reply → Machine → Type 0) (m : Machine) (seat : ℕ) (e : Event) (clock : ℤ) : Type 0 where
  pub enters : (user : List ℕ) → e ≡ event.Enter user → P (plain said.Greeting) (record m { seats = with_user m.seats seat user })
  pub answers : (user : List ℕ) (c : Command) → user_at m seat ≡ Some user → e ≡ event.Command c → Keeps (λ w n. P (plain w) n) m seat user c clock
  pub drains : P (drained_at m seat).0 (drained_at m seat).1
  pub leaves : P (left_at m seat).0 (left_at m seat).1

pub step_keeps : (P : Reply → Machine → Type 0) (m : Machine) (seat : ℕ) (e : Event) (clock : ℤ) (reply : Reply) (new : Machine) →
    KeepsStep P m seat e clock → step_of m seat e clock ≡ Ok (reply, new) → P reply new
step_keeps P m seat (event.Enter user) clock reply new kept e = seated_keeps P m seat user (user_at m seat) reply new (kept.enters user refl) e
step_keeps P m seat (event.Command c) clock reply new kept e =
    by_keeps P (user_at m seat) (λ user. reply_of (answer_to m seat user c clock)) reply new
    (λ user at. served_keeps (λ w n. P (plain w) n) m seat user c clock (kept.answers user c at refl)) e
step_keeps P m seat event.Drain clock reply new kept e = by_keeps P (user_at m seat) (λ user. drained_at m seat) reply new (λ user at. kept.drains) e
step_keeps P m seat event.Leave clock reply new kept e = by_keeps P (user_at m seat) (λ user. left_at m seat) reply new (λ user at. kept.leaves) e

-- ---- a refused event leaves the machine as it was

pub refused : RefusedLaw
refused m seat e clock reply new refusal f g =
    step_keeps (λ r n. r.said ≡ said.Refused refusal → n ≡ m) m seat e clock reply new
    (record {
      enters = λ user is h. cc;
      answers = λ user c at is. record {
        words = λ w good h. refl;
        changes = λ done write change w e h. cc;
        makes = λ make query found seats none e h. cc;
        frees = λ name seats e h. cc;
        updates = λ names told seats e h. cc;
      };
      drains = λ h. cc;
      leaves = λ h. cc;
    }) f g

-- ---- what no event changes

users_kept : (m : Machine) (seat : ℕ) (user : List ℕ) (c : Command) (clock : ℤ) (other : ℕ) → Keeps (λ w n. user_at n other ≡ user_at m other) m seat user c clock
users_kept m seat user c clock other = record {
  words = λ w good. refl;
  changes = λ done write change w e. changed_users m change other;
  makes = λ make query found seats none e. opened_users m.seats seats seat make query.sought _ m.store.last e other;
  frees = λ name seats e. freed_users m.seats seats seat name e other;
  updates = λ names told seats e. told_users m.seats seat names m.store.last told seats e other;
}

-- by a command or a drain nobody comes or goes
pub stay_served : (m : Machine) (seat : ℕ) (user : List ℕ) (c : Command) (clock : ℤ) (other : ℕ) → user_at (answer_to m seat user c clock).1 other ≡ user_at m other
stay_served m seat user c clock other = served_keeps (λ w n. user_at n other ≡ user_at m other) m seat user c clock (users_kept m seat user c clock other)

pub stay_drained : (m : Machine) (seat other : ℕ) → user_at (drained_at m seat).1 other ≡ user_at m other
stay_drained m seat other = drained_users m.seats seat other

pub others : OthersLaw
others = record {
  realm = λ m seat e clock reply new f. step_keeps (λ r n. n.realm ≡ m.realm) m seat e clock reply new
      (record {
        enters = λ user is. refl;
        answers = λ user c at is. record {
          words = λ w good. refl;
          changes = λ done write change w e. refl;
          makes = λ make query found seats none e. refl;
          frees = λ name seats e. refl;
          updates = λ names told seats e. refl;
        };
        drains = refl;
        leaves = refl;
      }) f;
  users = λ m seat e clock reply new f other apart. step_keeps (λ r n. user_at n other ≡ user_at m other) m seat e clock reply new
      (record {
        enters = λ user is. ap (option_map (λ o. o.user)) (entered_else m.seats seat user other apart);
        answers = λ user c at is. users_kept m seat user c clock other;
        drains = drained_users m.seats seat other;
        leaves = ap (option_map (λ o. o.user)) (left_else m.seats seat other apart);
      }) f;
}

-- ---- each change is the one that a command asks for, and contexts elsewhere change by it alone

pub change : ChangeLaw
change m seat e clock reply new f =
    step_keeps (λ r n. IsChange m seat e clock n ⊎ OthersStay m seat n) m seat e clock reply new
    (record {
      enters = λ user is. inr (record { store = refl; seats = λ other apart. entered_else m.seats seat user other apart });
      answers = λ user c at is. record {
        words = λ w good. inr (record { store = refl; seats = λ other apart. refl });
        changes = λ done write change w e. inl (record {
          user = user;
          asks = c;
          write = write;
          change = change;
          event_is = is;
          writes = w;
          seated = at;
          planned_as = e;
          made = refl;
          later = later_law m.store m.realm user write clock change e;
        });
        makes = λ make query found seats none e. inr (record { store = refl; seats = λ other apart. opened_else m.seats seats seat make query.sought _ m.store.last e other apart });
        frees = λ name seats e. inr (record { store = refl; seats = λ other apart. freed_else m.seats seats seat name e other apart });
        updates = λ names told seats e. inr (record { store = refl; seats = λ other apart. told_else m.seats seat names m.store.last told seats e other apart });
      };
      drains = inr (record { store = refl; seats = λ other apart. drained_else m.seats seat other apart });
      leaves = inr (record { store = refl; seats = λ other apart. left_else m.seats seat other apart });
    }) f
