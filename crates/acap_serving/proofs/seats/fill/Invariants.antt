use Rattle.std.proofs.Common.{◌≡◌, ◌+◌, ◌<◌, ◌≤◌, All, Some, map, vec_len, vec_capacity}
use Rattle.std.specs.Option.{option_map}
use Rattle.acap_serving.specs.Dealing.{dealt}
use Rattle.acap_serving.specs.Devices.{IsReady}
use Rattle.acap_serving.specs.Ends.{between, seated, whose_of}
use Rattle.acap_serving.proofs.seats.fill.Given as goal

abbrev pub invariant-loop : goal.invariant-loop
invariant-loop g l = record {
  conns : vec_len l.conns + l.counter ≡ l.end;
  passes : vec_len l.passes ≡ vec_len l.conns;
  seat_bells : vec_len l.seat_bells ≡ vec_len l.conns;
  untold : All (λ conn. IsReady (g.W.Wire.told conn.wire) (g.O.Source.told conn.source)) l.conns.items;
  hosts : All (λ seat_bell. seat_bell.host ≡ l.env.host.now) l.seat_bells.items;
  some : vec_len l.loads ≡ vec_len l.initial.loads;
  room : All (λ load. vec_len load + vec_len l.conns ≤ vec_capacity load) l.loads.items;
  dealt : dealt
      (map (λ load. map (λ s. whose_of (option_map (λ o. (o.running.parties, o.running.desk.pass.seat)) s.over) (option_map (λ r. (r.parties, r.desk.pass.seat)) s.task.running)) load.items) l.loads.items)
      (map Some (seated (between l.env.users l.env.host.now) (map (λ conn. conn.user) l.conns.items) (map (λ pass. pass.seat) l.passes.items)))
      ≡ dealt
      (map (λ load. map (λ s. whose_of (option_map (λ o. (o.running.parties, o.running.desk.pass.seat)) s.over) (option_map (λ r. (r.parties, r.desk.pass.seat)) s.task.running)) load.items) l.initial.loads.items)
      (map Some (seated (between l.env.users l.env.host.now) (map (λ conn. conn.user) l.initial.conns.items) (map (λ pass. pass.seat) l.initial.passes.items)));
}
