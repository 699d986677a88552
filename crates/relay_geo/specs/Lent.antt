-- What `step` over a lent shield answers: the Rust's pair. Definitions only.
use Rattle.relay_geo.specs.declared.shield.Shielded.{Shielded}
use Rattle.relay_geo.specs.declared.lent.Picked.{Picked}

abbrev pub picked_of : Shielded → Picked
picked_of s = record { command = s.command; fallback = s.fallback }
