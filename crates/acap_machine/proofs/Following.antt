-- Each step keeps the store sound and live contexts current.
use Rattle.std.proofs.Common.{◌≡◌, ℕ, ℤ, List, [], ◌∷◌, Bool, true, false, cond, ◌==◌, Option, Some, None, Result, Ok, Err, refl, sym, subst, ap, ◌∙◌, option_map, if◌then◌else◌}
use Rattle.std.specs.Cmp.{nat_cmp_total, unsigned_tied}
use Rattle.std.proofs.lemmas.Bool.{and_parts, not-false}
use Rattle.std.specs.List.{list_all}
use Rattle.std.specs.Option.{option_map_or}
use Rattle.std.specs.Ordering.{nat_cmp}
use Rattle.std.specs.FinMap.{get, get-insert, get-remove, get-empty}
use Rattle.std.specs.FinMap as table
use Rattle.acap_entries.specs.Changes.{store_after}
use Rattle.acap_entries.specs.Datasets.{dataset_exists}
use Rattle.acap_entries.specs.FullPaths.{is_well_formed}
use Rattle.acap_entries.specs.Names.{is_user_name}
use Rattle.acap_entries.specs.Sound.{IsSoundStore}
use Rattle.acap_entries.specs.Store.{empty_store}
use Rattle.acap_entries.specs.declared.change.Change.{Change}
use Rattle.acap_commands.specs.declared.command.Command.{Command}
use Rattle.acap_commands.specs.declared.event.Event.{Event}
use Rattle.acap_commands.specs.declared.event.Event.TheVariants as event
use Rattle.acap_commands.specs.declared.event.Fault.{Fault}
use Rattle.acap_commands.specs.declared.reply.Reply.{Reply}
use Rattle.acap_machine.specs.Changing.{changed_by}
use Rattle.acap_machine.specs.Following.{is_named, IsCurrentMachine, CurrentLaw, FollowedLaw}
use Rattle.acap_machine.specs.Machine.{Machine, new_machine, user_at}
use Rattle.acap_machine.specs.Runs.{run_of, stepped_at, machine_after}
use Rattle.acap_machine.specs.Serving.{write_of}
use Rattle.acap_machine.specs.declared.step.Step.{Step}
use Rattle.acap_machine.proofs.ServedLemmas.{Keeps}
use Rattle.acap_machine.proofs.SeatLemmas.{changed_users, opened_users, freed_users, told_users, drained_users, entered_else, left_else}
use Rattle.acap_machine.proofs.StepLaws.{KeepsStep, step_keeps}
use Rattle.acap_search.specs.Fresh.{refusal_of}
use Rattle.acap_search.specs.declared.query.Query.{Query}
use Rattle.acap_store.specs.DatasetLaws.{SoundLaw, paths_named}
use Rattle.acap_store.specs.Planning.{plan}
use Rattle.acap_store.specs.declared.write.Write.{Write}
use Rattle.acap_views.specs.Changing.{IsSoundStep}
use Rattle.acap_views.specs.Current.{IsCurrent}
use Rattle.acap_views.specs.Laws as views
use Rattle.acap_views.specs.Seats.{Occupant, Seated, IsAt, with_user, without_user}

-- ---- a change that a command makes leads from a sound store to a sound store

pub sound_step : (law : SoundLaw) (m : Machine) (user : List ℕ) (write : Write) (clock : ℤ) (change : Change) → IsSoundStore m.store.records
    → is_user_name user ≡ true → list_all is_well_formed (paths_named write) ≡ true → plan m.store m.realm user write clock ≡ Ok change
    → IsSoundStep m.store (store_after change m.store)
sound_step law m user write clock change sound name formed e = record {
  old_sound = sound;
  new_sound = law.sound m.store m.realm user write clock change e sound name formed;
  kept = λ dataset there. law.stays m.store m.realm user write clock change e sound dataset there;
}

-- ---- who sits at a seat

some_same : (a b : List ℕ) → Some a ≡ Some b → a ≡ b
some_same a b e = cc

pub is_at : (m : Machine) (seat : ℕ) (user : List ℕ) → user_at m seat ≡ Some user → IsAt m.seats seat user
is_at m seat user e occupant at = some_same _ _ (sym (ap (option_map (λ (o : Occupant). o.user)) at) ∙ e)

-- ---- a search that is not refused looks through a dataset that exists

exists_if : {X : Type 0} (a b c : X) (range missing over : Bool)
    → (if range then Some a else (if missing then Some b else (if over then Some c else None))) ≡ None → missing ≡ false
exists_if a b c true missing over e = absurd cc
exists_if a b c false true over e = absurd cc
exists_if a b c false false over e = refl

pub there : (m : Machine) (user : List ℕ) (query : Query) → refusal_of m.store.records m.realm user query ≡ None → dataset_exists m.store.records query.sought.dataset ≡ true
there m user query e = not-false _ (exists_if _ _ _ _ _ _ e)

-- ---- each step keeps all that

module _ (views_law : views.CurrentLaw) (store_law : SoundLaw) where
  with_seats : (m : Machine) (seats : Seated) → IsCurrentMachine m → IsCurrent m.store m.realm seats
      → ((seat : ℕ) → user_at (record m { seats = seats }) seat ≡ user_at m seat) → IsCurrentMachine (record m { seats = seats })
  with_seats m seats is current users = record {
    sound = record { store = is.sound.store; current = current };
    names = λ seat user e. is.names seat user (sym (users seat) ∙ e);
  }

  named_write : (c : Option Write) (write : Write) → c ≡ Some write → option_map_or (λ w. list_all is_well_formed (paths_named w)) c true ≡ true
      → list_all is_well_formed (paths_named write) ≡ true
  named_write None write e f = absurd cc
  named_write (Some w) write e f = let same : w ≡ write = cc in subst (λ x. list_all is_well_formed (paths_named x) ≡ true) same f

  changed_stays : (m : Machine) (user : List ℕ) (write : Write) (clock : ℤ) (change : Change) → IsCurrentMachine m → is_user_name user ≡ true
      → list_all is_well_formed (paths_named write) ≡ true → plan m.store m.realm user write clock ≡ Ok change → IsCurrentMachine (changed_by change m)
  changed_stays m user write clock change is name formed e =
      let step = sound_step store_law m user write clock change is.sound.store name formed e in
      record {
        sound = record { store = step.new_sound; current = views_law.changed m.store (store_after change m.store) m.realm m.seats step is.sound.current };
        names = λ seat other f. is.names seat other (sym (changed_users m change seat) ∙ f);
      }

  served_stays : (m : Machine) (seat : ℕ) (user : List ℕ) (c : Command) (clock : ℤ) → IsCurrentMachine m → user_at m seat ≡ Some user → is_named (event.Command c) ≡ true
      → Keeps (λ w n. IsCurrentMachine n) m seat user c clock
  served_stays m seat user c clock is at named = record {
    words = λ w good. is;
    changes = λ done write change w e. changed_stays m user write clock change is (is.names seat user at) (named_write (write_of c) write w named) e;
    makes = λ make query found seats none e.
        with_seats m seats is
        (views_law.opened m.store m.realm m.seats seats seat make query.sought user m.store.last is.sound.store (there m user query none) (is_at m seat user at) e is.sound.current)
        (opened_users m.seats seats seat make query.sought _ m.store.last e);
    frees = λ name seats e. with_seats m seats is (views_law.freed m.store m.realm m.seats seats seat name e is.sound.current) (freed_users m.seats seats seat name e);
    updates = λ names told seats e.
        with_seats m seats is (views_law.told m.store m.realm m.seats seats seat names m.store.last told e is.sound.current)
        (told_users m.seats seat names m.store.last told seats e);
  }

  entered_names : (m : Machine) (seat : ℕ) (user : List ℕ) → IsCurrentMachine m → is_user_name user ≡ true → (other : ℕ) (name : List ℕ) (b : Bool) → (other == seat) ≡ b
      → user_at (record m { seats = with_user m.seats seat user }) other ≡ Some name → is_user_name name ≡ true
  entered_names m seat user is named other name true apart e =
      let got = get-insert nat_cmp_total m.seats seat (record { user = user; contexts = table.empty }) other
      ∙ ap (λ b. cond b (Some (record { user = user; contexts = table.empty })) (get m.seats other)) (unsigned_tied other seat ∙ apart) in
      let same : user ≡ name = some_same _ _ (sym (ap (option_map (λ (o : Occupant). o.user)) got) ∙ e) in
      subst (λ n. is_user_name n ≡ true) same named
  entered_names m seat user is named other name false apart e =
      is.names other name (sym (ap (option_map (λ (o : Occupant). o.user)) (entered_else m.seats seat user other apart)) ∙ e)

  left_names : (m : Machine) (seat : ℕ) → IsCurrentMachine m → (other : ℕ) (name : List ℕ) (b : Bool) → (other == seat) ≡ b
      → user_at (record m { seats = without_user m.seats seat }) other ≡ Some name → is_user_name name ≡ true
  left_names m seat is other name true apart e =
      let got = get-remove nat_cmp_total m.seats seat other ∙ ap (λ b. cond b None (get m.seats other)) (unsigned_tied other seat ∙ apart) in
      absurd (let none : None ≡ Some name = sym (ap (option_map (λ (o : Occupant). o.user)) got) ∙ e in cc)
  left_names m seat is other name false apart e =
      is.names other name (sym (ap (option_map (λ (o : Occupant). o.user)) (left_else m.seats seat other apart)) ∙ e)

  step_stays : (m : Machine) (seat : ℕ) (e : Event) (clock : ℤ) → is_named e ≡ true → IsCurrentMachine m → ((user : List ℕ) → e ≡ event.Enter user → is_user_name user ≡ true)
      → KeepsStep (λ r n. IsCurrentMachine n) m seat e clock
  step_stays m seat e clock named is enters = record {
    enters = λ user is_enter. record {
      sound = record { store = is.sound.store; current = views_law.entered m.store m.realm m.seats seat user is.sound.current };
      names = λ other name f. entered_names m seat user is (enters user is_enter) other name (other == seat) refl f;
    };
    answers = λ user c at is_command. served_stays m seat user c clock is at (subst (λ x. is_named x ≡ true) is_command named);
    drains = with_seats m _ is (views_law.drained m.store m.realm m.seats seat is.sound.current) (λ other. drained_users m.seats seat other);
    leaves = record {
      sound = record { store = is.sound.store; current = views_law.left m.store m.realm m.seats seat is.sound.current };
      names = λ other name f. left_names m seat is other name (other == seat) refl f;
    };
  }

  named_enter : (e : Event) (user : List ℕ) → e ≡ event.Enter user → is_named e ≡ true → is_user_name user ≡ true
  named_enter e user is named = subst (λ x. is_named x ≡ true) is named

  pub current : CurrentLaw
  current = record {
    begins = λ realm. record {
      sound = record { store = store_law.empty; current = views_law.nobody empty_store realm };
      names = λ seat user e. absurd (let none : None ≡ Some user = sym (ap (option_map (λ (o : Occupant). o.user)) (get-empty nat_cmp seat)) ∙ e in cc);
    };
    stays = λ m seat e clock reply new f named is.
        step_keeps (λ r n. IsCurrentMachine n) m seat e clock reply new (step_stays m seat e clock named is (λ user g. named_enter e user g named)) f;
  }

  -- ---- and so does each run

  pub after_step : (m : Machine) (step : Step) (r : Result (Reply × Machine) Fault) → stepped_at m step ≡ r → is_named step.event ≡ true → IsCurrentMachine m → IsCurrentMachine (machine_after m r)
  after_step m step (Ok stepped) e named is = current.stays m step.seat step.event step.clock stepped.0 stepped.1 e named is
  after_step m step (Err fault) e named is = is

  pub after_run : (m : Machine) (steps : List Step) → list_all (λ s. is_named s.event) steps ≡ true → IsCurrentMachine m → IsCurrentMachine (run_of m steps).1
  after_run m [] named is = is
  after_run m (step ∷ steps) named is =
      let both = and_parts _ _ named in
      after_run (machine_after m (stepped_at m step)) steps both.1 (after_step m step (stepped_at m step) refl both.0 is)

  pub followed : FollowedLaw
  followed realm steps named seat occupant name context at there =
      ((after_run (new_machine realm) steps named (current.begins realm)).sound.current.all seat occupant at).each name context there
