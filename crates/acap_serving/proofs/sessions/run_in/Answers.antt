use denote.Exit as exit
use denote.Param.{param}
use denote.Param.Send.{param_send, arg_send}
use denote.Ref.{NamedLft}
use mir.Syntax.{named}
use Rattle.std.proofs.Common.{arith, ◌≡◌, ◌<◌, ◌++◌, false, drop, length, map, sym, ap, subst, ◌∙◌}
use Rattle.std.proofs.lemmas.List.{length-map}
use Rattle.acap_task.specs.contracts.pass_desk.PassDesk as pass_desk
use Rattle.acap_serving.specs.Ends.{between}
use Rattle.acap_serving.specs.contracts.bells.Bells as bells
use Rattle.acap_serving.proofs.Collected.{all_len, ends_of, in_parts, seats_of}
use Rattle.acap_serving.proofs.Threads.{desk_send}
use Rattle.acap_serving.proofs.sessions.run_in.Goals as goal

pub run_lent-requires-send-D : goal.run_lent-requires-send-D
run_lent-requires-send-D g c κs within =
    let ℓ : NamedLft = record { mir = named 5; lft = κs.1.1.1.1.1.0 } in
    param_send 2 _ (arg_send _ exit.no (pass_desk.the_row ℓ (param 1 g.row.S) (param 2 g.row.L) (param 0 g.row.R) bells.the_row g.S.Site g.S.Ledger g.L.Ledger)
    (desk_send (param 1 g.row.S) g.S.Site g.S.Ledger ℓ (param 2 g.row.L) (param 0 g.row.R) g.L.Ledger c.type_bounds.sync-R))

pub fill-requires-clause-room : goal.fill-requires-clause-room
fill-requires-clause-room g c = λ k d h. omega (arith, c.in-Ok.ensures.room k d h, c.len-count.ensures)

pub returns-clause-ends : goal.returns-clause-ends
returns-clause-ends g c =
    let len : length c.args.conns.items ≡ length c.stock.new.passes.items =
    omega (arith, c.args.conns.ok, c.stock.new.passes.ok, c.in-Ok.ensures.first.1, c.len-count.ensures) in
    let are =
    c.collect-overs.ensures.ends _ _
    (all_len (between c.args.env.now.users c.args.env.now.host.now) (λ conn. conn.user) (λ pass. pass.seat) (λ o. (o.running.parties, o.running.desk.pass.seat)) c.args.conns.items c.stock.new.passes.items c.collect-overs.result.items len ∙ omega (arith, c.args.conns.ok, c.len-count.ensures))
    (subst (λ n. 0 < n) (sym (length-map c.in-Ok.loads.items _)) (omega (arith, c.in-Ok.loads.ok, c.in-Ok.ensures.len, c.requires.workers)))
    (c.run_lent.ensures.same ∙ c.fill.ensures.dealt) in
    ap (λ d. map (λ end. end.running.parties) d.items) c.put_back.ensures.done ∙ c.split.ensures.ends
    ∙ ap (λ xs. map (λ end. end.running.parties) xs ++ map (λ over. over.running.parties) c.collect-overs.result.items) c.requires.lists.0
    ∙ ends_of (between c.args.env.now.users c.args.env.now.host.now) (λ conn. conn.user) (λ pass. pass.seat) (λ o. (o.running.parties, o.running.desk.pass.seat)) c.args.conns.items c.stock.new.passes.items c.collect-overs.result.items len are

pub returns-clause-seats : goal.returns-clause-seats
returns-clause-seats g c =
    let len : length c.args.conns.items ≡ length c.stock.new.passes.items =
    omega (arith, c.args.conns.ok, c.stock.new.passes.ok, c.in-Ok.ensures.first.1, c.len-count.ensures) in
    let are =
    c.collect-overs.ensures.ends _ _
    (all_len (between c.args.env.now.users c.args.env.now.host.now) (λ conn. conn.user) (λ pass. pass.seat) (λ o. (o.running.parties, o.running.desk.pass.seat)) c.args.conns.items c.stock.new.passes.items c.collect-overs.result.items len ∙ omega (arith, c.args.conns.ok, c.len-count.ensures))
    (subst (λ n. 0 < n) (sym (length-map c.in-Ok.loads.items _)) (omega (arith, c.in-Ok.loads.ok, c.in-Ok.ensures.len, c.requires.workers)))
    (c.run_lent.ensures.same ∙ c.fill.ensures.dealt) in
    c.put_back.ensures.seats
    ∙ ap (λ xs. xs ++ map (λ pass. pass.seat) c.in-Ok.spare.items)
    (c.split.ensures.seats
    ∙ ap (λ xs. map (λ place. place.pass.seat) xs ++ map (λ over. over.running.desk.pass.seat) c.collect-overs.result.items) c.requires.lists.1
    ∙ seats_of (between c.args.env.now.users c.args.env.now.host.now) (λ conn. conn.user) (λ pass. pass.seat) (λ o. (o.running.parties, o.running.desk.pass.seat)) c.args.conns.items c.stock.new.passes.items c.collect-overs.result.items len are)
    ∙ in_parts (λ pass. pass.seat) c.len-count.result c.stock.new.passes.items c.in-Ok.spare.items c.args.passes.items c.in-Ok.ensures.first.0 c.in-Ok.ensures.spare.0

pub returns-clause-owes : goal.returns-clause-owes
returns-clause-owes g c =
    let n : c.len-count.result ≡ length c.args.conns.items = omega (arith, c.args.conns.ok, c.len-count.ensures) in
    let rest = c.in-Ok.ensures.spare.0 ∙ ap (λ k. drop k c.args.passes.items) n in
    let passes =
    c.split.ensures.owes ∙ ap (λ xs. map (λ place. place.owes_leave) xs ++ map (λ over. over.running.desk.owes_leave) c.collect-overs.result.items) c.requires.lists.1 in
    let done =
    ap (λ d. map (λ end. end.running.desk.owes_leave) d.items) c.put_back.ensures.done ∙ c.split.ensures.owed
    ∙ ap (λ xs. map (λ end. end.running.desk.owes_leave) xs ++ map (λ over. over.running.desk.owes_leave) c.collect-overs.result.items) c.requires.lists.0 in
    c.put_back.ensures.owes ∙ (λ i. (passes ∙ sym done) i ++ map (λ _. false) (rest i))
