-- What is answered to calls on contexts, where memory may be refused.
use Rattle.std.proofs.Common.{◌≡◌, ℕ, ℤ, Bool, true, false, cond, Option, Some, None, Result, Ok, Err, List, [], ◌∷◌, refl, sym, ◌∙◌, ap}
use Rattle.std.specs.FinMap as table
use Rattle.std.specs.Option.{option_map_or, option_or}
use Rattle.std.specs.Result.{IfOk}
use Rattle.acap_notices.specs.declared.told.Told.{Told}
use Rattle.acap_views.specs.Answering.{IsAnswer, update_tells}
use Rattle.acap_views.specs.Contexts.{Kept, Snapshot, Live, Freed, Context, Contexts}
use Rattle.acap_views.specs.Opening.{freed_by}
use Rattle.acap_views.specs.Seats.{Seated, contexts_at, with_contexts}
use Rattle.acap_views.specs.Telling.{fault_in, fault_at, fault_of, told_in_turn, unless_faulty}
use Rattle.acap_views.specs.declared.refusal.ViewRefusal.{ViewRefusal}
use Rattle.acap_views.specs.declared.refusal.ViewRefusal.TheVariants as refusal

pub if_ok : {T E : Type 0} (P Q : T → Type 0) (r : Result T E) → IfOk r P → ((x : T) → P x → Q x) → IfOk r Q
if_ok P Q (Ok x) h f = f x h
if_ok P Q (Err e) h f = h

-- ---- freeing

pub freed_no : (seats : Seated) (seat : ℕ) (name : List ℕ) → table.contains_key (contexts_at seats seat) name ≡ false → freed_by seats seat name ≡ Err refusal.NoContext
freed_no seats seat name e =
    ap (λ (b : Bool). cond b (Ok (with_contexts seats seat (table.remove (contexts_at seats seat) name))) (Err refusal.NoContext)) e

pub freed_yes : (seats new : Seated) (seat : ℕ) (name : List ℕ) → table.contains_key (contexts_at seats seat) name ≡ true
    → new ≡ with_contexts seats seat (table.remove (contexts_at seats seat) name) → freed_by seats seat name ≡ Ok new
freed_yes seats new seat name e n =
    ap (λ (b : Bool). cond b (Ok (with_contexts seats seat (table.remove (contexts_at seats seat) name))) (Err refusal.NoContext)) e ∙ ap (λ (s : Seated). Ok s) (sym n)

-- ---- faults of an UPDATECONTEXT

abbrev is_memory : Option ViewRefusal → Bool
is_memory None = false
is_memory (Some refusal.TryFreeContext) = false
is_memory (Some refusal.NoContext) = false
is_memory (Some refusal.FreedContext) = false
is_memory (Some refusal.NotNotify) = false
is_memory (Some refusal.Memory) = true

kept_memory : (kept : Kept) → is_memory (fault_in kept) ≡ false
kept_memory (Snapshot shown) = refl
kept_memory (Live shown now pending) = refl
kept_memory Freed = refl

at_memory : (o : Option Context) → is_memory (option_map_or (λ (context : Context). fault_in context.kept) o (Some refusal.NoContext)) ≡ false
at_memory None = refl
at_memory (Some context) = kept_memory context.kept

or_memory : (a b : Option ViewRefusal) → is_memory a ≡ false → is_memory b ≡ false → is_memory (option_or a b) ≡ false
or_memory None b h k = k
or_memory (Some why) b h k = h

no_memory : (contexts : Contexts) (names : List (List ℕ)) → is_memory (fault_of contexts names) ≡ false
no_memory contexts [] = refl
no_memory contexts (name ∷ names) = or_memory (fault_at contexts name) (fault_of contexts names) (at_memory (table.get contexts name)) (no_memory contexts names)

refused : {X Y : Type 0} (f : Option ViewRefusal) (x : Y) (meant : X → Y) (why : ViewRefusal) → is_memory f ≡ false → f ≡ Some why → IsAnswer (unless_faulty f x) meant (Err why)
refused f x meant refusal.TryFreeContext n e = ap (λ (o : Option ViewRefusal). unless_faulty o x) e
refused f x meant refusal.NoContext n e = ap (λ (o : Option ViewRefusal). unless_faulty o x) e
refused f x meant refusal.FreedContext n e = ap (λ (o : Option ViewRefusal). unless_faulty o x) e
refused f x meant refusal.NotNotify n e = ap (λ (o : Option ViewRefusal). unless_faulty o x) e
refused f x meant refusal.Memory n e = let bad : true ≡ false = sym (ap is_memory e) ∙ n in absurd (cc (bad))

pub update_refused : {X : Type 0} (meant : X → List Told) (contexts : Contexts) (names : List (List ℕ)) (last : ℤ) (why : ViewRefusal) → Some why ≡ fault_of contexts names → IsAnswer (update_tells contexts names last) meant (Err why)
update_refused meant contexts names last why e = refused (fault_of contexts names) (told_in_turn contexts names last) meant why (no_memory contexts names) (sym e)

pub update_told : (contexts : Contexts) (names : List (List ℕ)) (last : ℤ) (tolds : List Told) → None ≡ fault_of contexts names → tolds ≡ told_in_turn contexts names last → update_tells contexts names last ≡ Ok tolds
update_told contexts names last tolds e t = ap (λ (o : Option ViewRefusal). unless_faulty o (told_in_turn contexts names last)) (sym e) ∙ ap (λ (ts : List Told). Ok ts) (sym t)
