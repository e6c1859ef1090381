-- What the loop over a command's continuations keeps, and how it ends.
use Rattle.std.proofs.Common.{◌≡◌, ℕ, ◌-◌, ◌<◌, List, [], ◌∷◌, ◌++◌, None, sym, ap, subst, ◌∙◌, arith}
use Rattle.acap_lexer.specs.declared.outcomes.Answered.{Answered}
use Rattle.acap_lexer.specs.declared.outcomes.Answered.TheVariants as asked
use Rattle.acap_lexer.specs.declared.lexed.Lexed.{Lexed}
use Rattle.acap_lexer.specs.declared.lexed.Lexed.TheVariants.{More, Plus, Line, Bad, Fatal}
use Rattle.acap_lexer.specs.declared.lexed.Mode.{Mode}
use Rattle.acap_lexer.specs.Holding.{Held}
use Rattle.acap_lexer.specs.Owing.{Owes, AsksFor, with_more, how_whole}
use Rattle.acap_lexer.specs.Stream.{progress}
use Rattle.acap_lexer.proofs.Asking.{Next, Took, plus_cases, more_cases, item_cases, owes_plus, owes_item, none_behind, none_owed}
use Rattle.acap_lexer.proofs.ProgressLaws.{leaves_room}

pub record IsSoFar (mode : Mode) (old : Held) (said : List Lexed) (new : Held) (now : List Lexed) : Type 0 where
  pub owes : (modes : List Mode) → Owes (mode ∷ modes) old said (mode ∷ modes) new now
  pub going : new.fatal ≡ None

abbrev pub due : Mode → Held → ℕ
due mode h = (progress mode h.text).waits - h.told

pub continues : (mode : Mode) (old : Held) (said : List Lexed) (here new : Held) (now : List Lexed) → IsSoFar mode old said here now → Next mode here Plus new → IsSoFar mode old said new (now ++ Plus ∷ [])
continues mode old said here new now s n = record {
  owes = λ modes more. s.owes modes more ∙ owes_plus mode modes here new now s.going n more;
  going = ap (λ h. h.fatal) (plus_cases mode here new s.going n).1;
}

pub fewer : (mode : Mode) (here new : Held) → here.fatal ≡ None → Next mode here Plus new → due mode new < due mode here
fewer mode here new going n =
    let p = plus_cases mode here new going n in
    subst (λ (h : Held). due mode h < due mode here) (sym p.1) (omega (arith, p.0))

pub lacks : (mode : Mode) (old : Held) (said : List Lexed) (here new : Held) (now : List Lexed) → IsSoFar mode old said here now → Next mode here More new → AsksFor mode old said new now asked.NotYet
lacks mode old said here new now s n =
    let m = more_cases mode here new s.going n in
    subst (λ (h : Held). AsksFor mode old said h now asked.NotYet) (sym m.1) (s.owes, s.going, leaves_room mode here.text m.0, λ modes. none_owed mode modes here s.going m.2 m.0)

by_lexed : (lexed : Lexed) (mode : Mode) (old : Held) (said : List Lexed) (here new : Held) (now : List Lexed) → IsSoFar mode old said here now → Took mode here lexed new → AsksFor mode old said new (now ++ lexed ∷ []) (how_whole lexed)
by_lexed (Fatal fault) mode old said here new now s t =
    λ modes more. s.owes modes more ∙ owes_item mode modes here new (Fatal fault) now s.going t more
    ∙ ap (λ (xs : List Lexed). (now ++ Fatal fault ∷ []) ++ xs) (none_behind modes (with_more new more) fault (ap (λ h. h.fatal) t.is))
by_lexed More mode old said here new now s t = (λ modes more. s.owes modes more ∙ owes_item mode modes here new More now s.going t more, ap (λ h. h.fatal) t.is)
by_lexed Plus mode old said here new now s t = (λ modes more. s.owes modes more ∙ owes_item mode modes here new Plus now s.going t more, ap (λ h. h.fatal) t.is)
by_lexed (Line tokens) mode old said here new now s t = (λ modes more. s.owes modes more ∙ owes_item mode modes here new (Line tokens) now s.going t more, ap (λ h. h.fatal) t.is)
by_lexed (Bad fault tag) mode old said here new now s t = (λ modes more. s.owes modes more ∙ owes_item mode modes here new (Bad fault tag) now s.going t more, ap (λ h. h.fatal) t.is)

pub takes : (lexed : Lexed) (asked : Answered) (mode : Mode) (old : Held) (said : List Lexed) (here new : Held) (now : List Lexed) → asked ≡ how_whole lexed → (lexed ≡ Plus → ⊥) → (lexed ≡ More → ⊥)
    → IsSoFar mode old said here now → Next mode here lexed new → AsksFor mode old said new (now ++ lexed ∷ []) asked
takes lexed asked mode old said here new now e not_plus not_more s n =
    rw e (by_lexed lexed mode old said here new now s (item_cases mode here new lexed s.going not_plus not_more n))
