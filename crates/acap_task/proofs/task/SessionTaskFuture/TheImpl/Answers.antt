-- What a poll of a session promises of itself gives what each future's poll promises.
use Rattle.std.proofs.Common.{◌≡◌, Option, Some, None, ◌∙◌, arith}
use Rattle.std.specs.Option.{IfSome, IsSomeAnd}
use Rattle.futures.specs.declared.task.Poll.{Poll}
use Rattle.futures.specs.declared.task.Poll.TheVariants.{Ready, Pending}
use Rattle.futures.specs.Poll.{IfReady, OnPending}
use Rattle.acap_task.proofs.task.SessionTaskFuture.TheImpl.Goals as goal

ready : {A : Type 0} (P Q : A → Type 0) (r : Poll A) → IfReady r P → ((x : A) → P x → Q x) → IfReady r Q
ready P Q (Ready x) h f = f x h
ready P Q Pending h f = tt

pending : {A : Type 0} (P Q S : Type 0) (r : Poll A) → OnPending r P → OnPending r Q → (P → Q → S) → OnPending r S
pending P Q S (Ready x) h k f = tt
pending P Q S Pending h k f = f h k

-- an end between the parties of the session that is left is one between those of the session before
between : {R Q : Type 0} (f : R → Q) (S T : R → R → Type 0) (p : Q) (old new : Option R)
    → IfSome old (λ r. IsSomeAnd new (λ q. (f q ≡ f r) × S r q × T r q)) → IfSome new (λ r. p ≡ f r) → IfSome old (λ r. p ≡ f r)
between f S T p None new w h = tt
between f S T p (Some r) None w h = absurd w
between f S T p (Some r) (Some q) w h = h ∙ w.0

pub poll-tells : goal.poll-tells
poll-tells g x c = record {
  value = ready _ _ c.result c.ensures.over (λ over h. (h.0, omega (arith, h.1), h.2));
  again = pending _ _ _ c.result c.ensures.count c.ensures.count (λ _ _. tt);
  same = pending _ _ _ c.result c.ensures.count c.ensures.waits
      (λ n w over h. (h.0 ∙ n.0, omega (arith, n.1, h.1), between (λ r. r.parties) _ _ over.running.parties c.args.self.now.running c.new.self.now.running w h.2));
  registered = c.ensures.registered;
  kept = c.ensures.kept;
}
