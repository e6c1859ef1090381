-- A MODTIME of a context that is read stands in the reply to an UPDATECONTEXT.
use Rattle.std.proofs.Common.{◌≡◌, ℕ, ℤ, Bool, true, false, ◌||◌, List, [], ◌∷◌, ◌++◌, map, Option, Some, None, refl, sym, ap, ◌∙◌}
use Rattle.std.specs.List.{list_any}
use Rattle.std.proofs.lemmas.Bool.{or_from}
use Rattle.std.proofs.lemmas.List.Folds.{list_any-append}
use Rattle.acap_commands.specs.Statuses.{status_of}
use Rattle.acap_commands.specs.declared.said.Said.{Said}
use Rattle.acap_commands.specs.declared.said.Said.TheVariants as said
use Rattle.acap_commands.specs.declared.refusal.Status.{Status}
use Rattle.acap_commands.specs.declared.refusal.Status.TheVariants as status
use Rattle.acap_commands.specs.declared.command.Verb.TheVariants as verb
use Rattle.acap_entries.specs.Stamp.{stamp_of}
use Rattle.acap_grammar.specs.Lines.{Datum, Line, Deleted, Greeting, AddTo, RemoveFrom, Change, UpTo, Rights, RightsList, Bye}
use Rattle.acap_grammar.specs.Refusals.{text_of}
use Rattle.acap_grammar.specs.SaidLines.{code_datum, done_line, entry_line, moment_lines, notice_line, refused_by, said_lines, searched_line, told_line}
use Rattle.acap_notices.specs.declared.notice.Notice.{Notice}
use Rattle.acap_notices.specs.declared.notice.Notice.TheVariants as notice
use Rattle.acap_notices.specs.declared.told.Told.{Told}
use Rattle.acap_notices.specs.declared.told.Told.TheVariants as told
use Rattle.acap_wire.proofs.Ends.{is_upto}
use Rattle.acap_wire.proofs.Replies.{tells_notices}

-- ---- lines that are no MODTIME of a context

abbrev pub is_modtime : Line → Bool
is_modtime (UpTo context stamp) = true
is_modtime other = false

each_none : {A : Type 0} (line : A → Line) → ((x : A) → is_modtime (line x) ≡ false) → (xs : List A) → list_any is_modtime (map line xs) ≡ false
each_none line none [] = refl
each_none line none (x ∷ xs) = or_from _ _ (none x) (each_none line none xs)

joined_none : (xs ys : List Line) → list_any is_modtime xs ≡ false → list_any is_modtime ys ≡ false → list_any is_modtime (xs ++ ys) ≡ false
joined_none xs ys a b = list_any-append is_modtime xs ys ∙ or_from _ _ a b

moments_none : (tag : Option (List ℕ)) (last : Option ℤ) → list_any is_modtime (moment_lines tag last) ≡ false
moments_none tag None = refl
moments_none tag (Some moment) = refl

refused_none : (s : Status) (tag : Option (List ℕ)) (code : Option Datum) (text : List ℕ) → list_any is_modtime (refused_by s tag code text ∷ []) ≡ false
refused_none status.No tag code text = refl
refused_none status.Bad tag code text = refl
refused_none status.Bye tag code text = refl

pub words_none : (tag : Option (List ℕ)) (words : Said) → tells_notices words ≡ false → list_any is_modtime (said_lines tag words) ≡ false
words_none tag said.Greeting e = refl
words_none tag said.Left e = refl
words_none tag (said.Drained tolds) e = cc
words_none tag (said.Updated tolds) e = cc
words_none tag (said.Done verb) e = refl
words_none tag (said.Searched found) e =
    joined_none (map (entry_line tag) found.rows ++ moment_lines tag found.last) (searched_line tag found.total ∷ [])
    (joined_none (map (entry_line tag) found.rows) (moment_lines tag found.last) (each_none (entry_line tag) (λ row. refl) found.rows) (moments_none tag found.last)) refl
words_none tag (said.Deleted names) e =
    joined_none (map (Deleted tag) names) (done_line tag verb.DeletedSince ∷ []) (each_none (Deleted tag) (λ name. refl) names) refl
words_none tag (said.Rights rights) e = refl
words_none tag (said.RightsList rights) e = refl
words_none tag (said.Challenge challenge) e = refl
words_none tag said.GoodBye e = refl
words_none tag (said.Refused why) e = refused_none (status_of why) tag (code_datum why) (text_of why)

one_there : (front back : List Line) (q stamp : List ℕ) → list_any is_modtime (front ++ UpTo q stamp ∷ back) ≡ true
one_there [] back q stamp = refl
one_there (line ∷ front) back q stamp = ap (λ b. is_modtime line || b) (one_there front back q stamp) ∙ or_true (is_modtime line)
  where
    or_true : (b : Bool) → (b || true) ≡ true
    or_true true = refl
    or_true false = refl

-- none stands in lines that have none
pub no_modtime : (lines front back : List Line) (q stamp : List ℕ) → list_any is_modtime lines ≡ false → lines ≡ front ++ UpTo q stamp ∷ back → ⊥
no_modtime lines front back q stamp none e =
    let k : false ≡ true = sym none ∙ ap (list_any is_modtime) e ∙ one_there front back q stamp in
    cc

-- ---- where one stands in what is told of contexts

pub record Stands (q stamp : List ℕ) (front : List Line) (tolds : List Told) : Type 0 where
  pub read : List Told
  pub unread : List Told
  pub moment : ℤ
  pub told_is : tolds ≡ read ++ told.Upto q moment ∷ unread
  pub front_is : map told_line read ≡ front
  pub stamp_is : stamp_of moment ≡ stamp

context_is : (a b x y : List ℕ) → UpTo a x ≡ UpTo b y → (a ≡ b) × (x ≡ y)
context_is a b x y e = (cc, cc)

notice_apart : (context q stamp : List ℕ) (n : Notice) → notice_line context n ≡ UpTo q stamp → ⊥
notice_apart context q stamp (notice.AddTo position row) e = absurd cc
notice_apart context q stamp (notice.RemoveFrom entry position) e = absurd cc
notice_apart context q stamp (notice.Change old new row) e = absurd cc

stands_first : (q stamp : List ℕ) (one : Told) (tolds : List Told) → told_line one ≡ UpTo q stamp → Stands q stamp [] (one ∷ tolds)
stands_first q stamp (told.Note context n) tolds e = absurd (notice_apart context q stamp n e)
stands_first q stamp (told.Upto context moment) tolds e =
    let is = context_is context q (stamp_of moment) stamp e in
    record { read = []; unread = tolds; moment = moment; told_is = ap (λ c. told.Upto c moment ∷ tolds) is.0; front_is = refl; stamp_is = is.1 }
stands_first q stamp (told.Freed context) tolds e = absurd cc

stands_later : (q stamp : List ℕ) (one : Told) (tolds : List Told) (line : Line) (front : List Line) → told_line one ≡ line → Stands q stamp front tolds → Stands q stamp (line ∷ front) (one ∷ tolds)
stands_later q stamp one tolds line front e s = record {
  read = one ∷ s.read;
  unread = s.unread;
  moment = s.moment;
  told_is = ap (λ ts. one ∷ ts) s.told_is;
  front_is = (λ i. e i ∷ s.front_is i);
  stamp_is = s.stamp_is;
}

head_is : (a b : Line) (xs ys : List Line) → a ∷ xs ≡ b ∷ ys → (a ≡ b) × (xs ≡ ys)
head_is a b xs ys e = (cc, cc)

pub stands : (q stamp : List ℕ) (tolds : List Told) (end front back : List Line) → list_any is_modtime end ≡ false → map told_line tolds ++ end ≡ front ++ UpTo q stamp ∷ back → Stands q stamp front tolds
stands q stamp [] end front back none e = absurd (no_modtime end front back q stamp none e)
stands q stamp (one ∷ tolds) end [] back none e = stands_first q stamp one tolds (head_is _ _ _ _ e).0
stands q stamp (one ∷ tolds) end (line ∷ front) back none e =
    let is = head_is _ _ _ _ e in
    stands_later q stamp one tolds line front is.0 (stands q stamp tolds end front back none is.1)

-- what is told then has a MODTIME
pub stands_upto : (q stamp : List ℕ) (front : List Line) (tolds : List Told) → Stands q stamp front tolds → list_any is_upto tolds ≡ true
stands_upto q stamp front tolds s = ap (list_any is_upto) s.told_is ∙ there s.read
  where
    or_true : (b : Bool) → (b || true) ≡ true
    or_true true = refl
    or_true false = refl

    there : (ts : List Told) → list_any is_upto (ts ++ told.Upto q s.moment ∷ s.unread) ≡ true
    there [] = refl
    there (t ∷ ts) = ap (λ b. is_upto t || b) (there ts) ∙ or_true (is_upto t)
