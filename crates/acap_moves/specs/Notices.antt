-- The notices of one change of a live search [RFC 2244 sections 3.3 and 6.5].
use Rattle.std.specs.Prelude.{◌≡◌, ℕ, suc, Bool, true, false, ◌&&◌, ◌==◌, if◌then◌else◌, Option, Some, None}
use Rattle.std.specs.Prelude.{List, [], ◌∷◌, ◌++◌, take}
use Rattle.acap_entries.specs.Orders.{octets_eq}
use Rattle.acap_entries.specs.declared.row.Row.{Row}
use Rattle.acap_entries.specs.contracts.row.RowPartialEq.TheImpl as row
use Rattle.acap_notices.specs.declared.notice.Notice.{Notice}
use Rattle.acap_notices.specs.declared.notice.Notice.TheVariants.{AddTo, RemoveFrom, Change}
use Rattle.acap_notices.specs.Holding.{holding, holding_after_all}
use Rattle.acap_moves.specs.Hits.{Name, Shape, IsLawful, is_among, IsDistinct, fresh, rows, spot, IsOfNames}

-- whether two rows are equal, as `==` says it
abbrev pub same_row : Row → Row → Bool
same_row = row.ghosts.eq

-- the new hits of the first k changed names, and the old ones of all others
abbrev pub hits_between : {H : Type 0} → ℕ → List Name → (Name → Option H) → (Name → Option H) → Name
    → Option H
hits_between k changed old new name = if is_among name (take k changed) then new name else old name

-- the old hits, but the new one of one name
unfoldable pub with_new_hit : {H : Type 0} → Name → (Name → Option H) → (Name → Option H) → Name → Option H
with_new_hit name new old other = if octets_eq name other then new other else old other

-- a name that isn't among the changed ones keeps its hit
pub record Covers {H : Type 0} (old new : Name → Option H) (names changed : List Name) : Type 0 where
  pub same_elsewhere : (name : Name) → is_among name names ≡ true → is_among name changed ≡ false
      → old name ≡ new name

module _ {H : Type 0} (v : Shape H) where
  -- with positions: none where position and row are the same
  abbrev pub listed_notice : Name → Option (ℕ × H) → Option (ℕ × H) → List Notice
  listed_notice name None None = []
  listed_notice name None (Some b) = AddTo b.0 (v.row b.1) ∷ []
  listed_notice name (Some a) None = RemoveFrom name a.0 ∷ []
  listed_notice name (Some a) (Some b) =
      if (a.0 == b.0) && same_row (v.row a.1) (v.row b.1) then [] else Change a.0 b.0 (v.row b.1) ∷ []

  -- without: positions are 0, and only membership and row count
  abbrev pub plain_notice : Name → Option (ℕ × H) → Option (ℕ × H) → List Notice
  plain_notice name None None = []
  plain_notice name None (Some b) = AddTo 0 (v.row b.1) ∷ []
  plain_notice name (Some a) None = RemoveFrom name 0 ∷ []
  plain_notice name (Some a) (Some b) =
      if same_row (v.row a.1) (v.row b.1) then [] else Change 0 0 (v.row b.1) ∷ []

  abbrev pub notice_between : Bool → Name → Option (ℕ × H) → Option (ℕ × H) → List Notice
  notice_between true name a b = listed_notice name a b
  notice_between false name a b = plain_notice name a b

  -- what is sent of a name, from one list to the next
  abbrev pub notice_at : Bool → Name → List H → List H → List Notice
  notice_at enumerated name before after =
      notice_between enumerated name (spot v name before) (spot v name after)

  abbrev pub mixed_list : ℕ → List Name → (Name → Option H) → (Name → Option H) → List Name → List H
  mixed_list k changed old new names = fresh v (hits_between k changed old new) names

  -- of the changed names after the first k
  unfoldable pub notices_from : ℕ → Bool → List Name → (Name → Option H) → (Name → Option H) → List Name
      → List Name → List Notice
  notices_from k enumerated changed old new names [] = []
  notices_from k enumerated changed old new names (name ∷ rest) =
      notice_at enumerated name (mixed_list k changed old new names)
      (mixed_list (suc k) changed old new names)
      ++ notices_from (suc k) enumerated changed old new names rest

  -- of each changed name in turn: ADDTO has its position in
  -- list k, REMOVEFROM that in list k - 1, CHANGE both
  abbrev pub notices : Bool → (Name → Option H) → (Name → Option H) → List Name → List Name → List Notice
  notices enumerated old new names changed = notices_from 0 enumerated changed old new names changed

  -- the same notices, made step by step: the next list from the last one
  unfoldable pub stepwise : Bool → (Name → Option H) → (Name → Option H) → List Name → List Name → List Notice
  stepwise enumerated old new names [] = []
  stepwise enumerated old new names (name ∷ rest) =
      notice_at enumerated name (fresh v old names) (fresh v (with_new_hit name new old) names)
      ++ stepwise enumerated (with_new_hit name new old) new names rest

-- the mixed lists, written out, are the lists made step by step
abbrev pub MixedLaw : (H : Type 0) → Type 0
MixedLaw H =
    (v : Shape H) (enumerated : Bool) (old new : Name → Option H) (names changed : List Name)
    → notices v enumerated old new names changed ≡ stepwise v enumerated old new names changed

-- the client that holds the rows of the old list and applies
-- the notices holds those of the new one, without a misfit
abbrev pub NoticeListLaw : (H : Type 0) → Type 0
NoticeListLaw H =
    (v : Shape H) → IsLawful v → (enumerated : Bool) (old new : Name → Option H) (names changed : List Name)
    → IsDistinct names → IsOfNames v old → IsOfNames v new → Covers old new names changed
    → holding_after_all (holding enumerated (rows v (fresh v old names)))
    (notices v enumerated old new names changed)
    ≡ Some (holding enumerated (rows v (fresh v new names)))
