-- What a wire in memory tells.
use Rattle.std.specs.Prelude.{ℕ, Bool, List, map}
use Rattle.std.specs.String.{string_bytes}
use Rattle.nr_outside.specs.Wire.{Connection, connections}
use Rattle.nr_outside.specs.Link.{script_pieces, link_pieces, link_to_come, connection_of}
use Rattle.nr_outside.specs.declared.wire.event.Event.{Event}
use Rattle.nr_outside.specs.declared.wire.mem.MemWire.{MemWire}

-- whether a connection is open
abbrev pub mem_wire_opened : MemWire → Bool
mem_wire_opened w = w.opened

-- the addresses at which it listened or to which it opened, or failed to
abbrev pub mem_wire_addresses : MemWire → List (List ℕ)
mem_wire_addresses w = map string_bytes w.addresses.items

-- the connections that were closed
abbrev pub mem_wire_past : MemWire → List Connection
mem_wire_past w = map connection_of w.past.items

-- all its connections, the open one last
abbrev pub mem_wire_connections : MemWire → List Connection
mem_wire_connections w = connections w.opened (mem_wire_past w) w.live.sent.items w.live.given.items (link_to_come w.live)

-- its events
abbrev pub mem_wire_events : MemWire → List Event
mem_wire_events w = w.events.items

-- the pieces that the open connection is still to give
abbrev pub mem_wire_pieces : MemWire → List (List ℕ)
mem_wire_pieces w = link_pieces w.live

-- the pieces that each connection gives which it is still to open
abbrev pub mem_wire_scripts : MemWire → List (List (List ℕ))
mem_wire_scripts w = map script_pieces w.scripts.items

-- how often it was called
abbrev pub mem_wire_calls : MemWire → ℕ
mem_wire_calls w = w.plan.calls

-- the numbers of its calls that are to fail
abbrev pub mem_wire_fails : MemWire → List ℕ
mem_wire_fails w = w.plan.fails.items
