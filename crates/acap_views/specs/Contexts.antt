-- A context: what a search found, kept by a session under a name,
-- and how it follows the store [RFC 2244 sections 3.3 and 6.4.1].
use Rattle.std.specs.Prelude.{ℤ, Bool, true, false, List, [], ◌≡◌, Option, Some, None, refl}
use Rattle.std.specs.Coded.{Coded, code_by, coded×, coded_list, coded_option, coded_bool, coded_ℕ, coded_ℤ}
use Rattle.std.specs.FinMap as table
use Rattle.acap_entries.specs.Orders.{octets_cmp}
use Rattle.acap_commands.specs.declared.search_modifiers.MakeContext.{MakeContext}
use Rattle.acap_notices.specs.contracts.notice.Notice as notice
use Rattle.acap_notices.specs.declared.notice.Notice.{Notice}
use Rattle.acap_search.specs.Matches.{Match, match_code}
use Rattle.acap_search.specs.contracts.query.SearchSpec as query
use Rattle.acap_search.specs.declared.query.SearchSpec.{SearchSpec}

-- the list that its client was sent, which stays as it is; that list, the present one and the notices that
-- wait; or neither, where too many notices came
pub data Kept : Type 0 where
  Snapshot : (shown : List Match) → Kept
  Live : (shown now : List Match) (pending : List Notice) → Kept
  Freed : Kept

-- what the search looked for, whether positions are sent,
-- up to which moment its client was sent all, and what is kept
pub record Context : Type 0 where
  pub sought : SearchSpec
  pub enumerated : Bool
  pub told : ℤ
  pub kept : Kept

-- the contexts of a session by their names
abbrev pub Contexts : Type 0
Contexts = table.FinMap octets_cmp Context

-- with NOTIFY it follows the store, and else it is a snapshot
abbrev pub kept_of : Bool → List Match → Kept
kept_of true found = Live found found []
kept_of false found = Snapshot found

-- what a search makes that found these matches; all of them, whatever LIMIT let through
abbrev pub context_of : MakeContext → SearchSpec → List Match → ℤ → Context
context_of make sought found last = record {
  sought = sought;
  enumerated = make.enumerate;
  told = last;
  kept = kept_of make.notify found;
}

-- how contexts are told apart in proofs
abbrev pub kept_parts : Kept → Option (List Match × Option (List Match × List Notice))
kept_parts (Snapshot shown) = Some (shown, None)
kept_parts (Live shown now pending) = Some (shown, Some (now, pending))
kept_parts Freed = None

abbrev pub kept_from : Option (List Match × Option (List Match × List Notice)) → Kept
kept_from None = Freed
kept_from (Some (shown, None)) = Snapshot shown
kept_from (Some (shown, Some (now, pending))) = Live shown now pending

abbrev pub kept_back : (kept : Kept) → kept_from (kept_parts kept) ≡ kept
kept_back (Snapshot shown) = refl
kept_back (Live shown now pending) = refl
kept_back Freed = refl

abbrev pub kept_code : Coded Kept
kept_code =
    code_by (Option (List Match × Option (List Match × List Notice)))
    (coded_option
    (coded× (coded_list match_code)
    (coded_option (coded× (coded_list match_code) (coded_list notice.the_row.coded)))))
    kept_parts kept_from kept_back

abbrev pub context_code : Coded Context
context_code =
    code_by (SearchSpec × (Bool × (ℤ × Kept)))
    (coded× query.the_row.coded (coded× coded_bool (coded× coded_ℤ kept_code)))
    (λ c. (c.sought, (c.enumerated, (c.told, c.kept))))
    (λ p. record { sought = p.0; enumerated = p.1.0; told = p.1.1.0; kept = p.1.1.1 }) (λ _. refl)

abbrev pub contexts_code : Coded Contexts
contexts_code = table.code (coded_list coded_ℕ) context_code
