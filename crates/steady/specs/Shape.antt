-- The shape that the types of the code give every session.
use Rattle.std.specs.Prelude.{◌≡◌, length}
use Rattle.session.specs.declared.Session.{Session}

-- the header kept has room for 14 bytes, and the waiting reply for a payload of 125
abbrev pub Shaped : Session → Type 0
Shaped s = (length s.incoming.header ≡ 14) × (length s.reply.payload ≡ 125)
