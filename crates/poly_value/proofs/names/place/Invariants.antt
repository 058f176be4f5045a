use Rattle.std.proofs.Common.{◌≡◌, drop, map}
use Rattle.std.specs.Prelude.{string_bytes}
use Rattle.poly_value.specs.Values.{place_of}
use Rattle.poly_value.proofs.Places.{behind}
use Rattle.poly_value.proofs.names.place.Given as goal

abbrev pub invariant-loop-i : goal.invariant-loop-i
invariant-loop-i l = behind l.i (place_of (drop l.i (map string_bytes l.all)) l.text) ≡ place_of l.names l.text
