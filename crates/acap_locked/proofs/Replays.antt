-- A history goes on by one call.
use Rattle.std.proofs.Common.{◌≡◌, ◌<◌, ◌≤◌, ℕ, ℤ, ◌+◌, sum, slice_set, slice_index, List, [], ◌∷◌, ◌++◌, length, Result, Ok, Err, IfOk, refl, ◌∙◌, sym, subst, ap, arith, length-append}
use Rattle.acap_commands.specs.declared.event.Event.{Event}
use Rattle.acap_commands.specs.declared.event.Fault.{Fault}
use Rattle.acap_commands.specs.declared.reply.Reply.{Reply}
use Rattle.acap_machine.specs.Machine.{Machine}
use Rattle.acap_machine.specs.Stepping.{Stepped}
use Rattle.acap_locked.specs.declared.history_entry.HistoryEntry.{HistoryEntry}
use Rattle.acap_locked.specs.declared.call.Answer.{Answer}
use Rattle.acap_locked.specs.declared.item.PassContents.{PassContents}
use Rattle.acap_locked.specs.Calls.{IsCalled, IsServed}
use Rattle.acap_locked.specs.Epochs.{Turns, retire}
use Rattle.acap_locked.specs.History.{IsReplay, IsKept}
use Rattle.acap_locked.specs.Notes.{call_of, entry_of}
use Rattle.acap_locked.specs.Shelf.{Shelf, shelf_of}

pub replay_push : (base : Machine) (es : List HistoryEntry) (old : Machine) (e : HistoryEntry) (new : Machine)
    → IsReplay base es old → Stepped old e.seat e.exchange.event e.exchange.moment e.exchange.reply new → IsReplay base (es ++ e ∷ []) new
replay_push base [] old e new r s =
    let P : Machine → Type 0 = λ m. Stepped m e.seat e.exchange.event e.exchange.moment e.exchange.reply new in
    (new, subst P r s, refl)
replay_push base (x ∷ xs) old e new r s = (r.0, r.1, replay_push r.0 xs old e new r.2 s)

-- the book after one call: the fields of the shelf that it leaves are those that it had, but for the machine, the history and the flags
pub kept_push : (first base : Machine) (es : List HistoryEntry) (old : Machine) (flags epoch : ℕ) (rs : List ℕ) (total gone seat : ℕ) (event : Event)
    (now : ℤ) (reply : Reply) (new : Machine) (mid : List HistoryEntry) (e : HistoryEntry) (after : List HistoryEntry) (flags' total' : ℕ)
    → IsKept first (shelf_of old es flags epoch base rs) total gone → length es < 1000000 → Stepped old seat event now reply new → mid ≡ es
    → after ≡ mid ++ e ∷ [] → e ≡ entry_of seat (call_of event now reply) → total' ≡ total + 1
    → IsKept first (shelf_of new after flags' epoch base rs) total' gone
kept_push first base es old flags epoch rs total gone seat event now reply new mid e after flags' total' k l s m a w t =
    let all : after ≡ es ++ entry_of seat (call_of event now reply) ∷ [] = a ∙ (ap (λ xs. xs ++ e ∷ []) m ∙ ap (λ x. es ++ x ∷ []) w) in
    let many : length after ≡ length es + 1 = omega (arith, length-append es (entry_of seat (call_of event now reply) ∷ []), ap length all) in
    let P : List HistoryEntry → Type 0 = λ xs. IsReplay base xs new in
    record {
      legal = record {
        earlier = k.legal.earlier;
        before = record { replays = k.legal.before.replays; counted = k.legal.before.counted; whole = k.legal.before.whole; least = k.legal.before.least; most = k.legal.before.most };
        replays = subst P (sym all) (replay_push base es old (entry_of seat (call_of event now reply)) new k.legal.replays s);
        began = k.legal.began;
        few = omega (arith, many, l);
        seats = k.legal.seats;
      };
      counted = omega (arith, many, k.counted, t);
      past = k.past;
      bound = k.bound;
    }

-- one history after another
replay_append : (a : Machine) (xs : List HistoryEntry) (b : Machine) (ys : List HistoryEntry) (c : Machine) → IsReplay a xs b → IsReplay b ys c → IsReplay a (xs ++ ys) c
replay_append a [] b ys c r s = subst (λ m. IsReplay m ys c) r s
replay_append a (x ∷ xs) b ys c r s = (r.0, r.1, replay_append r.0 xs b ys c r.2 s)

retire_append : (counts : List ℕ) (xs ys : List HistoryEntry) → retire counts (xs ++ ys) ≡ retire (retire counts xs) ys
retire_append counts [] ys = refl
retire_append counts (x ∷ xs) ys = retire_append (slice_set counts x.seat (slice_index counts x.seat + 1)) xs ys

-- the book where a new epoch begins: the calls of the one that is over come after those of the epochs before
pub kept_turn : (first base machine next : Machine) (es left : List HistoryEntry) (flags epoch : ℕ) (rs counts : List ℕ) (total gone now : ℕ)
    → IsKept first (shelf_of machine es flags epoch base rs) total gone → 500000 ≤ length es → next ≡ machine → left ≡ []
    → counts ≡ retire rs es → sum counts ≡ sum rs + length es → length counts ≡ 64 → now ≡ gone + length es → now ≤ 4611686018427387904
    → IsKept first (shelf_of machine left flags (epoch + 1) next counts) total now
kept_turn first base machine next es left flags epoch rs counts total gone now k long n e c t s g b =
    let none : length left ≡ 0 = ap length e in
    let p : List HistoryEntry = k.legal.earlier in
    let all : IsReplay first (p ++ es) machine = replay_append first p base es machine k.legal.before.replays k.legal.replays in
    record {
      legal = record {
        earlier = p ++ es;
        before = record {
          replays = subst (λ m. IsReplay first (p ++ es) m) (sym n) all;
          counted = c ∙ (ap (λ xs. retire xs es) k.legal.before.counted ∙ sym (retire_append _ p es));
          whole = omega (arith, length-append p es, k.legal.before.whole, t);
          least = omega (arith, length-append p es, k.legal.before.least, long);
          most = omega (arith, length-append p es, k.legal.before.most, k.legal.few);
        };
        replays = subst (λ xs. IsReplay next xs machine) (sym e) (sym n);
        began = λ z. absurd (omega (arith, z));
        few = omega (arith, none);
        seats = s;
      };
      counted = omega (arith, k.counted, g, none);
      past = omega (arith, k.past, g, t);
      bound = b;
    }

-- a call that is made after a new epoch may have begun
pub served : (r : Result Answer Fault) (old mid : Shelf) (held : PassContents) (event : Event) (now : ℤ) (new : Shelf) (left : PassContents) → Turns old mid
    → IfOk r (λ answer. IsCalled mid held event now answer new left) → IfOk r (λ answer. IsServed old held event now answer new left)
served (Ok answer) old mid held event now new left t c = (mid, t, c)
served (Err fault) old mid held event now new left t c = tt
