use Rattle.std.proofs.Common.{◌≡◌, drop, map}
use Rattle.papergrid_json.specs.Values.{is_named}
use Rattle.papergrid_json.proofs.parts.is_named.Given as goal

abbrev pub invariant-loop-other : goal.invariant-loop-other
invariant-loop-other l =
    let names = map (λ name. name.now) l.names in
    is_named l.name (drop l.other-index names) ≡ is_named l.name names
