-- What the ring from one worker to another carries: its messages, bodies included, and its markers.
use Rattle.std.specs.Prelude.{ℕ, suc, ◌==◌, if◌then◌else◌, List, [], ◌∷◌, map, Some, None}
use Rattle.line_names.specs.declared.messages.MsgName.{MsgName}
use Rattle.line_tape.specs.declared.events.Event.{Event}
use Rattle.line_tape.specs.declared.events.Event.TheVariants.{Send, Recv, Check, Mark}
use Rattle.line_tape.specs.declared.items.Item.{Item}
use Rattle.line_tape.specs.declared.items.Item.TheVariants.{Message as item_message}
use Rattle.line_tape.specs.declared.items.Item.TheVariants.{Marker as item_marker}
use Rattle.line_posts.specs.declared.parcels.Packet.{Packet}
use Rattle.line_posts.specs.declared.parcels.Parcel.{Parcel}
use Rattle.line_posts.specs.declared.parcels.Parcel.TheVariants.{Message, Marker}

-- the name of a packet from process p
abbrev pub packet_name : ℕ → Packet → MsgName
packet_name p packet = record { from = p; inc = packet.inc; number = packet.number }

-- a parcel from process p as an item of a link: the message's name, or the marker
abbrev pub item_of : ℕ → Parcel → Item
item_of p (Message packet) = item_message (packet_name p packet)
item_of p (Marker round) = item_marker round

-- these parcels from process p, as items of a link
abbrev pub items_of_parcels : ℕ → List Parcel → List Item
items_of_parcels p parcels = map (item_of p) parcels

-- these packets, as a ring carries them
abbrev pub parcels_of : List Packet → List Parcel
parcels_of packets = map (λ packet. Message packet) packets

-- these packets from process p, as items of a link
abbrev pub items_of_packets : ℕ → List Packet → List Item
items_of_packets p packets = items_of_parcels p (parcels_of packets)

-- what these events of a process send to q: the messages to q, and a marker for each check of a
-- round; `number` is that of the first message that the events send
abbrev pub parcels_sent : ℕ → ℕ → List Event → List Parcel
parcels_sent q number [] = []
parcels_sent q number (Send to inc body ∷ rest) =
    if to == q
    then Message (record { inc = inc; number = number; body = body })
    ∷ parcels_sent q (suc number) rest
    else parcels_sent q (suc number) rest
parcels_sent q number (Recv message ∷ rest) = parcels_sent q number rest
parcels_sent q number (Check state None ∷ rest) = parcels_sent q number rest
parcels_sent q number (Check state (Some round) ∷ rest) = Marker round ∷ parcels_sent q number rest
parcels_sent q number (Mark from round ∷ rest) = parcels_sent q number rest
