use Rattle.std.proofs.Common.{◌≡◌, map}
use Rattle.serde_json.specs.View.{members_view}
use Rattle.papergrid_json.specs.Values.{are_named}
use Rattle.papergrid_json.proofs.parts.all_are_named.Given as goal

abbrev pub invariant-loop-name : goal.invariant-loop-name
invariant-loop-name l =
    let names = map (λ name. name.now) l.names in
    are_named names (members_view l.name-iterator) ≡ are_named names (members_view l.members.entries)
