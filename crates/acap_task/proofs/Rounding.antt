-- What rounds come to.
use Rattle.std.proofs.Common.{rules, ◌≡◌, ℕ, ℤ, ◌+◌, ◌<◌, ◌==◌, List, [], ◌∷◌, ◌++◌, length, take, Result, Ok, Bool, true, false, IfOk, if◌then◌else◌, refl, sym, ◌∙◌, ap, subst, arith, inl, inr}
use Rattle.futures.specs.declared.task.Poll.{Poll}
use Rattle.futures.specs.declared.task.Poll.TheVariants.{Ready}
use Rattle.acap_login.specs.Login.{User}
use Rattle.std.specs.declared.alloc.AllocError.{AllocError as Memory}
use Rattle.acap_dialogue.specs.Session.{session_drain, session_next}
use Rattle.acap_dialogue.specs.Saying.{with_said, heard_of}
use Rattle.acap_dialogue.specs.declared.next.Heard.{Heard}
use Rattle.acap_dialogue.specs.declared.next.Heard.TheVariants as heard
use Rattle.acap_dialogue.specs.declared.next.Next.{Next}
use Rattle.acap_dialogue.specs.declared.next.Next.TheVariants as next
use Rattle.acap_dialogue.proofs.Speaking.{quiet_law, same_talk}
use Rattle.acap_task.specs.Progress.{Progress, done, done_in}
use Rattle.acap_task.specs.Told.{WireTold, DeskTold, SourceTold}
use Rattle.acap_task.specs.Turns.{Acts, DrainsAs, Reads, ReadsAs, Rings, Takes, Turns}
use Rattle.acap_task.specs.Waiting.{IsQuiet}
use Rattle.acap_task.specs.declared.bell.Ring.{Ring}
use Rattle.acap_task.specs.declared.bell.Ring.TheVariants as ring
use Rattle.acap_task.specs.declared.progress.Step.{Step}
use Rattle.acap_task.specs.declared.progress.Step.TheVariants as step
use Rattle.acap_task.specs.declared.wire.WireFault.{WireFault}

-- ---- where something was done

done_append : (xs ys : List Step) → done (xs ++ ys) ≡ done xs + done ys
done_append [] ys = omega arith
done_append (x ∷ xs) ys = omega (arith, done_append xs ys)

done_more : (old new : List Step) (x : Step) → new ≡ old ++ x ∷ [] → done_in x ≡ 1 → done old < done new
done_more old new x is one =
    let more : done new ≡ done old + (done_in x + 0) = ap done is ∙ done_append old (x ∷ []) in omega (arith, more, one)

drains_as : (n : Next) (k l : Progress) (d e : DeskTold) (clock : ℤ) → DrainsAs n clock k d l e → done k.steps < done l.steps
drains_as (next.Ask event) k l d e clock h = done_more k.steps l.steps _ h.2 refl
drains_as other k l d e clock h = done_more k.steps l.steps _ h.0 refl

pub rung_done : (k l : Progress) (d e : DeskTold) (s t : SourceTold) (r : Poll Ring) → r ≡ Ready ring.Rung
    → Rings r k d s l e t → done k.steps < done l.steps
rung_done k l d e s t r is h =
    let m = subst (λ y. Rings y k d s l e t) is h in
    let y = session_drain k.talk in drains_as y.0 (record k { talk = y.1 }) l d e m.clock m.acts

acts_done : (h : Heard) (k l : Progress) (d e : DeskTold) (clock : ℤ) (nonce : ℕ) → Acts h clock nonce k d true l e
    → done k.steps < done l.steps
acts_done heard.More k l d e clock nonce a = absurd (let both : true ≡ false = a.0 in cc)
acts_done heard.Said k l d e clock nonce a = done_more k.steps l.steps _ a.1 refl
acts_done (heard.Asks event) k l d e clock nonce a = done_more k.steps l.steps _ a.1.2 refl
acts_done heard.Closes k l d e clock nonce a = done_more k.steps l.steps _ a.1.1 refl

pub turn_done : (users : List User) (k l : Progress) (d e : DeskTold) (s t : SourceTold) (r : Result Bool Memory) → r ≡ Ok true
    → IfOk r (λ moved. Turns users moved k d s l e t) → done k.steps < done l.steps
turn_done users k l d e s t r is h =
    let m = subst (λ y. IfOk y (λ w. Turns users w k d s l e t)) is h in
    let x = session_next users m.nonce m.clock k.talk in
    acts_done (heard_of x.0) (record k { talk = x.1; unsent = with_said k.unsent x.0 }) l d e m.clock m.nonce m.acts

if_none : (n : ℕ) (b : Bool) → (n == 0) ≡ b → (n ≡ 0 → ⊥) → ◌≡◌ {A = ℕ} (if b then 0 else 1) 1
if_none n true e some = absurd (some (search rules))
if_none n false e some = refl

not_none : (n : ℕ) → (n ≡ 0 → ⊥) → done_in (step.Piece n) ≡ 1
not_none n some = if_none n (n == 0) refl some

took_done : (k l : Progress) (octets : List ℕ) → (length octets ≡ 0 → ⊥) → l.lost ≡ false → Takes octets k l → done k.steps < done l.steps
took_done k l octets some whole (owed, seated, inl made) = done_more k.steps l.steps (step.Piece (length octets)) made.1 (not_none (length octets) some)
took_done k l octets some whole (owed, seated, inr made) = absurd (cc (whole, made.1))

read_as : (buffer : List ℕ) (k l : Progress) (n : ℕ) → ReadsAs (Ready (Ok n)) buffer k l → (n ≡ 0 → ⊥) → l.lost ≡ false → done k.steps < done l.steps
read_as buffer k l n (inl h) some whole = absurd (some h.0)
read_as buffer k l n (inr h) some whole = took_done k l (take n buffer) (λ z. some (h.1 ∙ z)) whole h.2

pub read_done : (w v : WireTold) (k l : Progress) (r : Poll (Result ℕ WireFault)) (n : ℕ) → r ≡ Ready (Ok n) → (n ≡ 0 → ⊥) → l.lost ≡ false → Reads w k r v l → done k.steps < done l.steps
read_done w v k l r n is some whole h = read_as h.buffer k l n (subst (λ y. ReadsAs y h.buffer k l) is h.as_read) some whole

-- ---- where nothing is next

acts_quiet : (n : Next) (k l : Progress) (d e : DeskTold) (nonce : ℕ) (clock : ℤ) → Acts (heard_of n) clock nonce k d false l e
    → (n ≡ next.More) × (l ≡ k)
acts_quiet next.More k l d e nonce clock a = (refl, a.1)
acts_quiet other k l d e nonce clock a = absurd (let both : false ≡ true = a.0 in cc)

pub turn_quiet : (users after : List User) (k l : Progress) (d e : DeskTold) (s t : SourceTold) (r : Result Bool Memory) → r ≡ Ok false → after ≡ users
    → IfOk r (λ moved. Turns users moved k d s l e t) → IsQuiet after l.talk
turn_quiet users after k l d e s t r is same h nonce clock =
    let m = subst (λ y. IfOk y (λ w. Turns users w k d s l e t)) is h in
    let x = session_next users m.nonce m.clock k.talk in
    let q = acts_quiet x.0 _ l d e m.nonce m.clock m.acts in
    let talk : l.talk ≡ k.talk = ap (λ y. y.talk) q.1 ∙ same_talk users m.nonce m.clock k.talk q.0 in
    subst (λ u. (session_next u nonce clock l.talk).0 ≡ next.More) (sym same)
    (subst (λ y. (session_next users nonce clock y).0 ≡ next.More) (sym talk) (quiet_law users m.nonce nonce m.clock clock k.talk q.0))
