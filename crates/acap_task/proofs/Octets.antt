-- What a session that runs keeps is kept where octets are written and read, and where it leaves its seat.
use Rattle.std.proofs.Common.{◌≡◌, ℕ, ℤ, List, [], ◌∷◌, ◌++◌, take, drop, Option, Some, None, Result, Ok, Bool, true, false, refl, sym, ◌∙◌, ap, subst, append_assoc, append-nil, arith, inl, inr}
use mathlib.Core.Logic.{∥∥₁_map}
use Rattle.std.proofs.lemmas.List.{take-append-drop}
use Rattle.futures.specs.declared.task.Poll.{Poll}
use Rattle.futures.specs.declared.task.Poll.TheVariants.{Ready}
use Rattle.acap_commands.specs.declared.event.Event.TheVariants as event
use Rattle.acap_commands.specs.declared.event.Fault.{Fault}
use Rattle.acap_locked.specs.declared.call.Answer.{Answer}
use Rattle.acap_dialogue.specs.Running.{At, Piece, Leave, did, leaving, over, pieces, taking}
use Rattle.acap_dialogue.proofs.Running.{pieces_snoc, drains_snoc}
use Rattle.acap_task.specs.Kept.{Agrees, Kept, Roles, count_told}
use Rattle.acap_task.specs.Progress.{Progress}
use Rattle.acap_task.specs.Told.{WireTold, DeskTold, SourceTold, BellTold, adds, after_call, after_read, after_write, gives_moment}
use Rattle.acap_task.specs.Turns.{LeavesAtEnd, Reads, ReadsAs, Takes, Writes, gone, left_by, reply_in}
use Rattle.acap_task.specs.Waiting.{EndsAt, IsOver}
use Rattle.acap_task.specs.declared.progress.Step.TheVariants as step
use Rattle.acap_task.specs.declared.task.TaskEnd.{TaskEnd}
use Rattle.acap_task.specs.declared.wire.WireFault.{WireFault}
use Rattle.acap_task.proofs.Acting.{shown_as}
use Rattle.acap_task.proofs.Keeping.{kept_of, kept_same, kept_step, none_used, owes_all, run_of, run_on, session_of, source_of, source_on, steps_on, wire_of, wire_on}
use Rattle.acap_task.proofs.Telling.{agrees_adds, agrees_as, goes_by_call, goes_nowhere, picked_more}

-- ---- what is written

module _ {roles : Roles} {w v : WireTold} {d : DeskTold} {s : SourceTold} {b : BellTold} {k : Progress} where
  -- nothing but counts of the wire has changed
  wire_kept : Kept roles w d s b k → v.taken ≡ w.taken → v.put ≡ w.put → Kept roles v d s b k
  wire_kept h taken put = kept_of (run_of h) (session_of h)
      (record {
        all_read = h.all_read;
        taken = subst (λ o. Agrees o (pieces h.dids ++ h.unread)) (sym taken) h.taken_is;
        put = subst (λ o. Agrees o h.written) (sym put) h.put_is;
      }) (source_of h) h.rings_are

  write_kept : (r : Poll (Result ℕ WireFault)) → Kept roles w d s b k → v ≡ after_write w r k.unsent
      → Kept roles v d s b (record k { unsent = left_by r k.unsent })
  write_kept (Ready (Ok n)) h made = kept_of (run_of h)
      (record {
        steps = h.steps_are;
        talk = h.talk_is;
        seated = h.seated_is;
        said = h.said_is ∙ ap (λ ys. h.written ++ (ys ++ h.missing)) (sym (take-append-drop n k.unsent))
            ∙ ap (λ ys. h.written ++ ys) (append_assoc (take n k.unsent) (drop n k.unsent) h.missing)
            ∙ sym (append_assoc h.written (take n k.unsent) (drop n k.unsent ++ h.missing));
        whole = h.whole;
      })
      (record {
        all_read = h.all_read;
        taken = subst (λ (u : WireTold). Agrees u.taken (pieces h.dids ++ h.unread)) (sym made) h.taken_is;
        put = subst (λ (u : WireTold). Agrees u.put (h.written ++ take n k.unsent)) (sym made)
            (agrees_adds w.put h.written (take n k.unsent) h.put_is);
      }) (source_of h) h.rings_are
  write_kept other h made = wire_kept h (ap (λ u. u.taken) made) (ap (λ u. u.put) made)

  pub kept_write : {l : Progress} (r : Poll (Result ℕ WireFault)) → ∥ Kept roles w d s b k ∥₁ → Writes w k r v l
      → ∥ Kept roles v d s b l ∥₁
  kept_write r h made = ∥∥₁_map h (λ p. kept_same made.1 refl refl (write_kept r p made.0))

-- ---- what is read

-- octets that were read follow the others
taken_more : {roles : Roles} {w : WireTold} {d : DeskTold} {s : SourceTold} {b : BellTold} {k : Progress} (v : WireTold)
    (h : Kept roles w d s b k) (octets : List ℕ) → k.lost ≡ false → v.taken ≡ adds w.taken octets
    → Agrees v.taken (pieces h.dids ++ octets)
taken_more {w = w} v h octets whole taken = subst (λ o. Agrees o (pieces h.dids ++ octets)) (sym taken)
    (agrees_adds w.taken (pieces h.dids) octets
    (agrees_as w.taken _ _ (ap (λ ys. pieces h.dids ++ ys) (h.all_read whole) ∙ append-nil (pieces h.dids)) h.taken_is))

module _ {roles : Roles} {w v : WireTold} {d : DeskTold} {s : SourceTold} {b : BellTold} {k l : Progress} where
  -- the session takes octets, or memory is refused for them
  takes_kept : (octets : List ℕ) → Kept roles w d s b k → k.lost ≡ false → v.taken ≡ adds w.taken octets → v.put ≡ w.put
      → Takes octets k l → Kept roles v d s b l
  unfolding did
  takes_kept octets h whole taken put (unsent, seated, inl made) =
      kept_step {at = record h.at { talk = taking h.at.talk octets }} {unread = []} h (Piece octets) refl tt
      (record {
        talk = λ _. ap (λ t. taking t octets) (h.talk_is whole) ∙ sym made.0;
        seated = h.seated_is ∙ sym seated;
        out_is = sym (append-nil h.at.out);
        owes = owes_all (unsent ∙ sym (append-nil k.unsent));
      }) whole made.1
      (record {
        all_read = λ _. refl;
        taken = agrees_as v.taken _ _ (sym (pieces_snoc h.dids (Piece octets)) ∙ sym (append-nil _)) (taken_more v h octets whole taken);
        put = subst (λ o. Agrees o h.written) (sym put) h.put_is;
      }) (goes_nowhere d d refl)
      (source_on h.dids (Piece octets) h.moments_are h.numbers_are (none_used _ _ h.clocks_picked) (none_used _ _ h.nonces_picked))
      (agrees_as b.rings _ _ (ap count_told (omega arith)) h.rings_are)
  takes_kept octets h whole taken put (unsent, seated, inr made) = kept_of (run_of h)
      (record {
        steps = h.steps_are ∙ sym made.0;
        talk = λ f. absurd (cc (f, made.1));
        seated = h.seated_is ∙ sym seated;
        said = h.said_is ∙ ap (λ ys. h.written ++ (ys ++ h.missing)) (sym unsent);
        whole = λ f. absurd (cc (f, made.1));
      })
      (record {
        all_read = λ f. absurd (cc (f, made.1));
        taken = taken_more v h octets whole taken;
        put = subst (λ o. Agrees o h.written) (sym put) h.put_is;
      }) (source_of h) h.rings_are

nothing_told : (o : Option (List ℕ)) → adds o [] ≡ o
nothing_told None = refl
nothing_told (Some xs) = ap (λ ys. Some ys) (append-nil xs)

module _ {roles : Roles} {w v : WireTold} {d : DeskTold} {s : SourceTold} {b : BellTold} {k l : Progress} where
  read_kept : (r : Poll (Result ℕ WireFault)) (buffer : List ℕ) → Kept roles w d s b k → k.lost ≡ false
      → v ≡ after_read w r buffer → ReadsAs r buffer k l → Kept roles v d s b l
  read_kept (Ready (Ok n)) buffer h whole told (inl (none, same)) =
      kept_same same refl refl (wire_kept h (ap (λ u. u.taken) told ∙ ap (λ m. adds w.taken (take m buffer)) none ∙ nothing_told w.taken) (ap (λ u. u.put) told))
  read_kept (Ready (Ok n)) buffer h whole told (inr made) = takes_kept (take n buffer) h whole (ap (λ u. u.taken) told) (ap (λ u. u.put) told) made.2
  read_kept other buffer h whole told same = kept_same same refl refl (wire_kept h (ap (λ u. u.taken) told) (ap (λ u. u.put) told))

  pub kept_read : (r : Poll (Result ℕ WireFault)) → ∥ Kept roles w d s b k ∥₁ → k.lost ≡ false → Reads w k r v l
      → ∥ Kept roles v d s b l ∥₁
  kept_read r h whole made = ∥∥₁_map h (λ p. read_kept r made.buffer p whole made.told made.as_read)

-- ---- the end

gone_kept : {roles : Roles} {w : WireTold} {d e : DeskTold} {s : SourceTold} {b : BellTold} {k : Progress} (h : Kept roles w d s b k) (clock : ℤ) (outcome : Result Answer Fault) → k.seated ≡ true
    → e ≡ after_call d event.Leave clock outcome → Kept roles w e (gives_moment s clock) b (gone clock outcome k)
unfolding did
gone_kept {d = d} {e = e} {s = s} {b = b} {k = k} h clock outcome seated desk =
    let x = Leave clock (Some (reply_in outcome)) in
    let at : At = record { talk = over h.at.talk; out = h.at.out; seated = false } in
    kept_of
    (run_on x (run_of h) (ap (λ z. leaving z (Some (reply_in outcome)) at) (h.seated_is ∙ seated)) tt (goes_by_call d e event.Leave clock outcome desk))
    (record {
      steps = steps_on h.dids x k (gone clock outcome k) h.steps_are (ap (λ f. k.steps ++ step.Leave clock f ∷ []) (shown_as outcome));
      talk = λ f. ap over (h.talk_is f);
      seated = refl;
      said = h.said_is;
      whole = h.whole;
    }) (wire_on x (wire_of h) refl (λ f. f))
    (source_on h.dids x (agrees_adds s.moments h.moments (clock ∷ []) h.moments_are) h.numbers_are
    (picked_more _ _ clock h.clocks_picked) (none_used _ _ h.nonces_picked))
    (agrees_as b.rings _ _ (ap count_told (sym (drains_snoc h.dids x ∙ omega arith))) h.rings_are)

module _ {roles : Roles} {w : WireTold} {d e : DeskTold} {s t : SourceTold} {b : BellTold} {k l : Progress} where
  left_kept : (seated : Bool) → k.seated ≡ seated → Kept roles w d s b k → LeavesAtEnd seated k d s l e t → Kept roles w e t b l
  left_kept true is h made = kept_same made.2 refl made.4 (gone_kept h made.0 made.1 is made.3)
  left_kept false is h made = kept_same made.0 made.1 made.2 h

  pub kept_leave : ∥ Kept roles w d s b k ∥₁ → LeavesAtEnd k.seated k d s l e t → ∥ Kept roles w e t b l ∥₁
  kept_leave h made = ∥∥₁_map h (λ p. left_kept k.seated refl p made)

-- it is over, by what it is then
pub over_then : {roles after : Roles} {w v : WireTold} {d e : DeskTold} {s t : SourceTold} {b c : BellTold} {k l : Progress}
    → after ≡ roles → v ≡ w → c ≡ b → (how : TaskEnd) (polls turns : ℕ) → ∥ Kept roles w d s b k ∥₁
    → EndsAt how roles.users w k polls turns → LeavesAtEnd k.seated k d s l e t → ∥ IsOver after v e t c l how polls turns ∥₁
over_then {d = d} {e = e} {s = s} {t = t} {k = k} {l = l} same wire bell how polls turns h ends left =
    subst (λ (x : Roles × (WireTold × BellTold)). ∥ IsOver x.0 x.1.0 e t x.1.1 l how polls turns ∥₁)
    (λ i. (sym same i, (sym wire i, sym bell i)))
    (∥∥₁_map h (λ p. record { old = k; d = d; s = s; kept = p; ends = ends; left = left }))
