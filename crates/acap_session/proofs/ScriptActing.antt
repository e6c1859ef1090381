-- What is done at a seat, from what the world's calls leave.
use Rattle.std.proofs.Common.{◌≡◌, ℕ, Bool, true, false, not, List, Option, None, Ok, IsSome, refl, ap, ◌∙◌}
use Rattle.std.specs.Option.{is_some}
use Rattle.acap_session.specs.Places.{SeatSession}
use Rattle.acap_session.specs.World.{World, Feeds, IsStep, Opens, did, open_at}
use Rattle.acap_session.specs.World as world
use Rattle.acap_session.specs.declared.occasion.Occasion.{Occasion}
use Rattle.acap_session.proofs.ScriptHearing.{piece_same}

none_may : (x : Option SeatSession) → x ≡ None → not (is_some x) ≡ true
none_may x e = rw e refl

pub opens_there : (old new : World) (o : Occasion) (user : Option (List ℕ)) → Opens o user old new (Ok tt) → (not (is_some (open_at old o.seat)) ≡ true) × (new ≡ did o false (world.Open user) old)
opens_there old new o user k = (none_may (open_at old o.seat) k.0, k.1)

pub pushes : (old new : World) (o : Occasion) (piece : List ℕ) (n : ℕ) → Feeds o.seat piece old new (Ok n) → (is_some (open_at old o.seat) ≡ true) × (new ≡ did o false (world.Piece piece) old)
pushes old new o piece n f = let step = f.3 o refl in (ap is_some f.1, step.is ∙ piece_same o step.refused piece old)

leave_same : (o : Occasion) (refused : Bool) (w : World) → did o refused world.Leave w ≡ did o false world.Leave w
unfolding did
leave_same o refused w = refl

pub leaves : (old new : World) (o : Occasion) → IsSome (open_at old o.seat) × IsStep o world.Leave old new → (is_some (open_at old o.seat) ≡ true) × (new ≡ did o false world.Leave old)
leaves old new o k = (k.0, k.1.is ∙ leave_same o k.1.refused old)
