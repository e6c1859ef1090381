-- What a session that runs keeps, in parts, and how a step carries each part on.
use Rattle.std.proofs.Common.{◌≡◌, ℕ, ℤ, ◌+◌, List, [], ◌∷◌, ◌++◌, map, Option, Some, Bool, true, false, refl, sym, ◌∙◌, ap, subst, append_assoc, append-nil}
use Rattle.std.proofs.lemmas.List.{map-append}
use Rattle.std.specs.Option.{option_and_then}
use Rattle.acap_login.specs.Login.{User}
use Rattle.acap_dialogue.specs.Running.{At, Did, calls, calls_in, clocks, clocks_in, did, drains, drains_in, faults, faults_in, nonces, nonces_in, octets_in, pieces, after_steps, start}
use Rattle.acap_dialogue.specs.Talking.{Talking, beginning}
use Rattle.acap_dialogue.proofs.Running.{run_snoc, pieces_snoc, clocks_snoc, nonces_snoc, drains_snoc, faults_snoc, calls_snoc, calls_then}
use Rattle.acap_task.specs.Kept.{Agrees, AllMove, IsPicked, IsUntold, Kept, Moves, Roles, as_told, count_told, shape}
use Rattle.acap_task.specs.Progress.{Progress, no_progress}
use Rattle.acap_task.specs.Told.{WireTold, DeskTold, SourceTold, BellTold, gives_moment, gives_nonce}
use Rattle.acap_task.specs.Turns.{Notes}
use Rattle.acap_task.proofs.Telling.{Goes, agrees_adds, agrees_as, picked_still}

abbrev pub begin : Roles → At
begin roles = start roles.host roles.user

-- ---- the parts

-- a run, and what its desk reports
pub record OfRun (roles : Roles) (dids : List Did) (at : At) (d : DeskTold) : Type 0 where
  pub ran : after_steps roles.users dids (begin roles) ≡ Some at
  pub moved : AllMove roles.users dids (Some (begin roles))
  pub calls_are : Agrees d.calls (map as_told (calls roles.users dids (begin roles)))
  pub faults_are : d.faults ≡ count_told (faults dids)

-- how far the session has come
pub record OfSession (at : At) (dids : List Did) (written missing : List ℕ) (k : Progress) : Type 0 where
  pub steps : map shape dids ≡ k.steps
  pub talk : k.lost ≡ false → at.talk ≡ k.talk
  pub seated : at.seated ≡ k.seated
  pub said : at.out ≡ written ++ (k.unsent ++ missing)
  pub whole : k.lost ≡ false → missing ≡ []

-- its octets
pub record OfWire (w : WireTold) (dids : List Did) (written unread : List ℕ) (k : Progress) : Type 0 where
  pub all_read : k.lost ≡ false → unread ≡ []
  pub taken : Agrees w.taken (pieces dids ++ unread)
  pub put : Agrees w.put written

-- its moments and nonces
pub record OfSource (s : SourceTold) (dids : List Did) (moments : List ℤ) (numbers : List ℕ) : Type 0 where
  pub moments_are : Agrees s.moments moments
  pub numbers_are : Agrees s.nonces numbers
  pub clocks_picked : IsPicked (clocks dids) moments
  pub nonces_picked : IsPicked (nonces dids) numbers

module _ {roles : Roles} {w : WireTold} {d : DeskTold} {s : SourceTold} {b : BellTold} {k : Progress} where
  pub kept_of : {dids : List Did} {at : At} {written missing unread : List ℕ} {moments : List ℤ} {numbers : List ℕ}
      → OfRun roles dids at d → OfSession at dids written missing k → OfWire w dids written unread k
      → OfSource s dids moments numbers → Agrees b.rings (count_told (drains dids)) → Kept roles w d s b k
  kept_of {dids} {at} {written} {missing} {unread} {moments} {numbers} run session wire source rings = record {
    dids = dids;
    at = at;
    written = written;
    missing = missing;
    unread = unread;
    moments = moments;
    numbers = numbers;
    ran = run.ran;
    moved = run.moved;
    steps_are = session.steps;
    talk_is = session.talk;
    seated_is = session.seated;
    said_is = session.said;
    whole = session.whole;
    all_read = wire.all_read;
    taken_is = wire.taken;
    put_is = wire.put;
    calls_are = run.calls_are;
    faults_are = run.faults_are;
    moments_are = source.moments_are;
    numbers_are = source.numbers_are;
    clocks_picked = source.clocks_picked;
    nonces_picked = source.nonces_picked;
    rings_are = rings;
  }

  pub run_of : (h : Kept roles w d s b k) → OfRun roles h.dids h.at d
  run_of h = record { ran = h.ran; moved = h.moved; calls_are = h.calls_are; faults_are = h.faults_are }

  pub session_of : (h : Kept roles w d s b k) → OfSession h.at h.dids h.written h.missing k
  session_of h =
      record { steps = h.steps_are; talk = h.talk_is; seated = h.seated_is; said = h.said_is; whole = h.whole }

  pub wire_of : (h : Kept roles w d s b k) → OfWire w h.dids h.written h.unread k
  wire_of h = record { all_read = h.all_read; taken = h.taken_is; put = h.put_is }

  pub source_of : (h : Kept roles w d s b k) → OfSource s h.dids h.moments h.numbers
  source_of h = record {
    moments_are = h.moments_are;
    numbers_are = h.numbers_are;
    clocks_picked = h.clocks_picked;
    nonces_picked = h.nonces_picked;
  }

  -- the same, where it is called otherwise
  pub kept_same : {e : DeskTold} {t : SourceTold} {l : Progress} → l ≡ k → e ≡ d → t ≡ s
      → Kept roles w d s b k → Kept roles w e t b l
  kept_same p q r h =
      subst (λ (x : Progress × (DeskTold × SourceTold)). Kept roles w x.1.0 x.1.1 b x.0) (λ i. (sym p i, (sym q i, sym r i))) h

-- ---- the beginning

pub kept_first : {w : WireTold} {d : DeskTold} {s : SourceTold} {b : BellTold} {k : Progress} (roles : Roles) (talk : Talking)
    (lost : Bool) → (lost ≡ false → talk ≡ beginning roles.host roles.user) → k ≡ no_progress talk lost → IsUntold w d s b
    → Kept roles w d s b k
kept_first {w} {d} {s} {b} roles talk lost begins is untold =
    subst (λ x. Kept roles w d s b x) (sym is) (kept_of {dids = []} {at = begin roles} {written = []} {missing = []} {unread = []} {moments = []} {numbers = []}
    (record { ran = refl; moved = tt; calls_are = untold.calls; faults_are = untold.faults })
    (record { steps = refl; talk = λ whole. sym (begins whole); seated = refl; said = refl; whole = λ _. refl })
    (record { all_read = λ _. refl; taken = untold.taken; put = untold.put })
    (record { moments_are = untold.moments; numbers_are = untold.nonces; clocks_picked = refl; nonces_picked = refl }) untold.rings)

-- ---- one step of a run

some_same : {A : Type 0} {x y : A} → Some x ≡ Some y → x ≡ y
some_same e = cc

told_snoc : (roles : Roles) (ds : List Did) (x : Did) (at : At) → after_steps roles.users ds (begin roles) ≡ Some at
    → map as_told (calls roles.users (ds ++ x ∷ []) (begin roles))
    ≡ map as_told (calls roles.users ds (begin roles)) ++ map as_told (calls_in roles.users x at)
told_snoc roles ds x at ran =
    ap (map as_told) (calls_snoc roles.users ds x (begin roles))
    ∙ map-append as_told (calls roles.users ds (begin roles)) (calls_then roles.users x (after_steps roles.users ds (begin roles)))
    ∙ ap (λ o. map as_told (calls roles.users ds (begin roles)) ++ map as_told (calls_then roles.users x o)) ran

-- one more step that came to something
moved_on : (users : List User) (ds : List Did) (x : Did) (o : Option At) (at : At)
    → option_and_then (after_steps users ds) o ≡ Some at → AllMove users ds o → Moves users x at → AllMove users (ds ++ x ∷ []) o
moved_on users [] x (Some start) at ran all moves = (subst (Moves users x) (some_same (sym ran)) moves, tt)
moved_on users (y ∷ ys) x (Some start) at ran all moves = (all.0, moved_on users ys x (did users y start) at ran all.1 moves)
moved_on users ds x o at ran all moves = tt

pub run_on : {roles : Roles} {dids : List Did} {at new : At} {d e : DeskTold} (x : Did) → OfRun roles dids at d
    → did roles.users x at ≡ Some new → Moves roles.users x at → Goes d e (calls_in roles.users x at) (faults_in x)
    → OfRun roles (dids ++ x ∷ []) new e
run_on {roles = roles} {dids = dids} {at = at} {e = e} x h does moves goes = record {
  ran = run_snoc roles.users dids x (begin roles) ∙ ap (option_and_then (did roles.users x)) h.ran ∙ does;
  moved = moved_on roles.users dids x (Some (begin roles)) at h.ran h.moved moves;
  calls_are = agrees_as e.calls _ _ (sym (told_snoc roles dids x at h.ran)) (goes.told _ h.calls_are);
  faults_are = goes.counts _ h.faults_are ∙ ap count_told (sym (faults_snoc dids x));
}

-- ---- what it says

-- Octets more wait to be written after the old ones, but for those that memory is refused for.
pub record Owes (old text : List ℕ) (l : Progress) : Type 0 where
  pub missing : List ℕ
  pub said : old ++ text ≡ l.unsent ++ missing
  pub whole : l.lost ≡ false → missing ≡ []

pub owes_all : {old text : List ℕ} {l : Progress} → l.unsent ≡ old ++ text → Owes old text l
owes_all {l = l} p = record { missing = []; said = sym p ∙ sym (append-nil l.unsent); whole = λ _. refl }

pub owes_none : {old text : List ℕ} {l : Progress} → l.unsent ≡ old → l.lost ≡ true → Owes old text l
owes_none {text = text} p lost = record { missing = text; said = ap (λ xs. xs ++ text) (sym p); whole = λ f. absurd (cc (f, lost)) }

-- where the session stands once it said this text more
pub record Says (out : List ℕ) (at : At) (text unsent : List ℕ) (l : Progress) : Type 0 where
  pub talk : l.lost ≡ false → at.talk ≡ l.talk
  pub seated : at.seated ≡ l.seated
  pub out_is : at.out ≡ out ++ text
  pub owes : Owes unsent text l

pub steps_on : (dids : List Did) (x : Did) (k l : Progress) → map shape dids ≡ k.steps → Notes (shape x) k l
    → map shape (dids ++ x ∷ []) ≡ l.steps
steps_on dids x k l steps notes = map-append shape dids (x ∷ []) ∙ ap (λ ss. ss ++ shape x ∷ []) steps ∙ sym notes

session_on : {at new : At} {dids : List Did} {written missing text : List ℕ} {k l : Progress} (x : Did) → OfSession at dids written missing k
    → (s : Says at.out new text k.unsent l) → k.lost ≡ false → Notes (shape x) k l → OfSession new (dids ++ x ∷ []) written s.owes.missing l
session_on {dids = dids} {written = written} {text = text} {k = k} {l = l} x h s whole notes = record {
  steps = steps_on dids x k l h.steps notes;
  talk = s.talk;
  seated = s.seated;
  said = s.out_is ∙ ap (λ ys. ys ++ text) (h.said ∙ ap (λ ys. written ++ (k.unsent ++ ys)) (h.whole whole) ∙ ap (λ ys. written ++ ys) (append-nil k.unsent))
      ∙ append_assoc written k.unsent text ∙ ap (λ ys. written ++ ys) s.owes.said;
  whole = s.owes.whole;
}

-- ---- what its devices report

-- a step without octets
pub wire_on : {w : WireTold} {dids : List Did} {written unread : List ℕ} {k l : Progress} (x : Did) → OfWire w dids written unread k
    → octets_in x ≡ [] → (l.lost ≡ false → k.lost ≡ false) → OfWire w (dids ++ x ∷ []) written unread l
wire_on {w = w} {dids = dids} {unread = unread} x h mute still = record {
  all_read = λ f. h.all_read (still f);
  taken = agrees_as w.taken _ _
      (ap (λ ys. ys ++ unread) (sym (pieces_snoc dids x ∙ ap (λ ys. pieces dids ++ ys) mute ∙ append-nil (pieces dids)))) h.taken;
  put = h.put;
}

-- what a step uses was given just now, or nothing is used
pub source_on : {t : SourceTold} {moments : List ℤ} {numbers : List ℕ} (dids : List Did) (x : Did) → Agrees t.moments moments → Agrees t.nonces numbers
    → IsPicked (clocks dids ++ clocks_in x) moments → IsPicked (nonces dids ++ nonces_in x) numbers → OfSource t (dids ++ x ∷ []) moments numbers
source_on {moments = moments} {numbers = numbers} dids x gave numbered clocked nonced = record {
  moments_are = gave;
  numbers_are = numbered;
  clocks_picked = subst (λ xs. IsPicked xs moments) (sym (clocks_snoc dids x)) clocked;
  nonces_picked = subst (λ xs. IsPicked xs numbers) (sym (nonces_snoc dids x)) nonced;
}

-- none is used
pub none_used : {A : Type 0} (used given : List A) → IsPicked used given → IsPicked (used ++ []) given
none_used used given h = subst (λ xs. IsPicked xs given) (sym (append-nil used)) h

-- a moment and a nonce are given in vain
pub source_idle : {s : SourceTold} {dids : List Did} {moments : List ℤ} {numbers : List ℕ} (clock : ℤ) (nonce : ℕ) → OfSource s dids moments numbers
    → OfSource (gives_nonce (gives_moment s clock) nonce) dids (moments ++ clock ∷ []) (numbers ++ nonce ∷ [])
source_idle {s = s} {moments = moments} {numbers = numbers} clock nonce h = record {
  moments_are = agrees_adds s.moments moments (clock ∷ []) h.moments_are;
  numbers_are = agrees_adds s.nonces numbers (nonce ∷ []) h.numbers_are;
  clocks_picked = picked_still _ _ clock h.clocks_picked;
  nonces_picked = picked_still _ _ nonce h.nonces_picked;
}

-- ---- one step more is kept

pub kept_step : {roles : Roles} {w v : WireTold} {d e : DeskTold} {s t : SourceTold} {b c : BellTold} {k l : Progress} {at : At} {text unread : List ℕ}
    {moments : List ℤ} {numbers : List ℕ} (h : Kept roles w d s b k) (x : Did) → did roles.users x h.at ≡ Some at → Moves roles.users x h.at
    → Says h.at.out at text k.unsent l → k.lost ≡ false → Notes (shape x) k l → OfWire v (h.dids ++ x ∷ []) h.written unread l
    → Goes d e (calls_in roles.users x h.at) (faults_in x) → OfSource t (h.dids ++ x ∷ []) moments numbers
    → Agrees c.rings (count_told (drains h.dids + drains_in x)) → Kept roles v e t c l
kept_step {c = c} h x does moves says whole notes wire goes source rings =
    kept_of (run_on x (run_of h) does moves goes) (session_on x (session_of h) says whole notes) wire source
    (agrees_as c.rings _ _ (ap count_told (sym (drains_snoc h.dids x))) rings)
