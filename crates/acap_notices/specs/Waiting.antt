-- What a queue of notices stands for [RFC 2244 section 3.3].
use Rattle.std.specs.Prelude.{ℕ, ◌-◌, ◌≤◌, min, List, length, refl}
use Rattle.std.specs.Coded.{Coded, code_by, coded×, coded_list, coded_ℕ}
use Rattle.acap_ordmap.specs.Room.{free_of}
use Rattle.acap_notices.specs.declared.notice.Notice.{Notice}
use Rattle.acap_notices.specs.declared.notice_list.NoticeList.{NoticeList}
use Rattle.acap_notices.specs.declared.notice_list.NoticeList.TheVariants.{Own, Shared}
use Rattle.acap_notices.specs.contracts.notice.Notice as notice

-- the notices that wait, the oldest first, and for how many more there is memory
pub record Waiting : Type 0 where
  pub notices : List Notice
  pub room : ℕ

-- the notices of a list, and for how many more there is room: where a reply may hold it too there is none
abbrev pub notices_in : NoticeList → List Notice
notices_in (Own notices) = notices.items
notices_in (Shared notices) = notices

abbrev pub room_in : NoticeList → ℕ
room_in (Own notices) = free_of notices
room_in (Shared notices) = 0

-- how many may wait
abbrev pub notices_pending : ℕ
notices_pending = 4_096

-- there is room for `more` notices, or for as many as may still come
pub record HasRoom (more : ℕ) (w : Waiting) : Type 0 where
  pub room : min more (notices_pending - length w.notices) ≤ w.room

abbrev pub waiting_code : Coded Waiting
waiting_code =
    code_by (List Notice × ℕ) (coded× (coded_list notice.the_row.coded) coded_ℕ) (λ w. (w.notices, w.room))
    (λ p. record { notices = p.0; room = p.1 }) (λ _. refl)
