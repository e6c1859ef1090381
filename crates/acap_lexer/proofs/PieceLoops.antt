-- What the loops over commands, parts and pieces keep.
use Rattle.std.proofs.Common.{◌≡◌, ℕ, ◌+◌, ◌<◌, ◌≤◌, List, [], ◌∷◌, ◌++◌, length, get_or, drop, None, refl, sym, ap, ◌∙◌, arith, Bor}
use Rattle.std.proofs.lemmas.List.{append-nil, at_drop_more, at_drop_all}
use Rattle.acap_lexer.specs.declared.outcomes.Answered.TheVariants as asked
use Rattle.acap_lexer.specs.declared.lexed.Lexed.{Lexed}
use Rattle.acap_lexer.specs.declared.lexed.Mode.{Mode}
use Rattle.acap_lexer.specs.Holding.{Held}
use Rattle.acap_lexer.specs.Held.{answers_from, answers_of}
use Rattle.acap_lexer.specs.Owing.{Owes, IsReady, AsksFor, AsksAll, Feeds, octets_of, with_more}
use Rattle.acap_lexer.specs.Stream.{end_of, part_end, step_of, progress_within, progress_from, progress}

pub record AsksSoFar (modes : List Mode) (old : Held) (said : List Lexed) (left : List Mode) (new : Held) (now : List Lexed) : Type 0 where
  pub owes : Owes modes old said left new now
  pub going : 0 < length left → new.fatal ≡ None

pub record FeedsSoFar (piece : List ℕ) (modes : List Mode) (old : Held) (said : List Lexed) (rest : List ℕ) (left : List Mode) (new : Held) (now : List Lexed) : Type 0 where
  pub owes : (more : List ℕ) → said ++ answers_from modes (with_more old (piece ++ more)) ≡ now ++ answers_from left (with_more new (rest ++ more))
  pub ready : IsReady left new

pub record JoinsSoFar (modes : List Mode) (pieces rest : List (Bor (List ℕ))) (left : List Mode) (new : Held) (now : List Lexed) : Type 0 where
  pub owes : answers_of modes (octets_of pieces) ≡ now ++ answers_from left (with_more new (octets_of rest))
  pub ready : IsReady left new

no_modes : (h : Held) → answers_from [] h ≡ []
unfolding answers_from
no_modes h = refl

ready_none : (h : Held) → IsReady [] h
ready_none h = record { going = λ some. absurd (omega arith); room = λ some. absurd (omega arith); done = no_modes h }

-- ---- commands

pub asks_closed : (modes here_left left : List Mode) (mode : Mode) (old here new : Held) (said middle now : List Lexed) → here_left ≡ mode ∷ left → AsksSoFar modes old said here_left here middle → AsksFor mode here middle new now asked.Closed
    → AsksAll modes old said [] new now
asks_closed modes here_left left mode old here new said middle now is s a = record { owes = λ more. s.owes more ∙ ap (λ (ms : List Mode). middle ++ answers_from ms (with_more here more)) is ∙ a left more; ready = ready_none new }

pub asks_none : (modes left : List Mode) (old new : Held) (said now : List Lexed) → length left ≡ 0 → AsksSoFar modes old said left new now → AsksAll modes old said left new now
asks_none modes [] old new said now none s = record { owes = s.owes; ready = ready_none new }
asks_none modes (m ∷ left) old new said now none s = absurd (omega arith)

-- ---- parts of a piece

pub feeds_none : (piece : List ℕ) (modes left : List Mode) (old new : Held) (said now : List Lexed) (rest : List ℕ) → length left ≡ 0 → FeedsSoFar piece modes old said rest left new now → Feeds piece modes old said [] new now
feeds_none piece modes [] old new said now rest none s = record {
  owes = λ more. s.owes more ∙ ap (λ (xs : List Lexed). now ++ xs) (no_modes (with_more new (rest ++ more)) ∙ sym (no_modes (with_more new more)));
  ready = ready_none new;
}
feeds_none piece modes (m ∷ left) old new said now rest none s = absurd (omega arith)

-- ---- pieces

nothing_yet : (mode : Mode) → progress mode [] ≡ record { waits = 0; item = None }
unfolding progress progress_from progress_within step_of part_end end_of
nothing_yet mode = refl

nothing_owed : (modes : List Mode) → answers_of modes [] ≡ []
unfolding answers_from
nothing_owed [] = refl
nothing_owed (mode ∷ modes) = rw (nothing_yet mode) refl

pub joins_start : (modes : List Mode) (pieces : List (Bor (List ℕ))) (new : Held) (now : List Lexed) → new ≡ record { text = []; told = 0; fatal = None } → now ≡ [] → JoinsSoFar modes pieces pieces modes new now
joins_start modes pieces new now e n = rw (e, n) (record {
  owes = refl;
  ready = record { going = λ some. refl; room = λ some. omega arith; done = nothing_owed modes };
})

pub joins_piece : (modes : List Mode) (pieces : List (Bor (List ℕ))) (place : ℕ) (default : Bor (List ℕ)) (here_left left : List Mode) (here new : Held) (middle now : List Lexed) → place < length pieces
    → JoinsSoFar modes pieces (drop place pieces) here_left here middle → Feeds (get_or pieces place default).now here_left here middle left new now → JoinsSoFar modes pieces (drop (place + 1) pieces) left new now
joins_piece modes pieces place default here_left left here new middle now some s f = record {
  owes = s.owes ∙ ap (λ more. middle ++ answers_from here_left (with_more here more)) (at_drop_more octets_of pieces place default some) ∙ f.owes (octets_of (drop (place + 1) pieces));
  ready = f.ready;
}

no_more : (h : Held) → with_more h [] ≡ h
no_more h = ap (λ text. let g : Held = record { text = text; told = h.told; fatal = h.fatal } in g) (append-nil h.text)

pub joins_end : (modes : List Mode) (pieces : List (Bor (List ℕ))) (place : ℕ) (left : List Mode) (new : Held) (now : List Lexed) → length pieces ≤ place → JoinsSoFar modes pieces (drop place pieces) left new now
    → now ≡ answers_of modes (octets_of pieces)
joins_end modes pieces place left new now none s =
    let all : answers_from left (with_more new (octets_of (drop place pieces))) ≡ [] =
    ap (λ more. answers_from left (with_more new more)) (at_drop_all octets_of pieces place none) ∙ ap (answers_from left) (no_more new) ∙ s.ready.done in
    sym (s.owes ∙ ap (λ (xs : List Lexed). now ++ xs) all ∙ append-nil now)
