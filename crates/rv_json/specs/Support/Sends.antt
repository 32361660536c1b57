-- Not to audit: private contracts alone cite this.
-- What sends data in which no number is a float, so that they have a text.
use Rattle.std.specs.Prelude.{◌≡◌, false}
use Rattle.serde.specs.Event.{Log}
use Rattle.serde_json.specs.Data.{Data, Members}
use Rattle.serde_json.specs.Events.{SendsMembers, SendsValue}
use Rattle.serde_json.specs.Written.{has_float, members_have_float}

unfoldable pub Sends : Data → Log → Log → Type 0
Sends d old new = (has_float d ≡ false) × SendsValue d old new

-- the members of an object, with its end
unfoldable pub SendsAll : Members → Log → Log → Type 0
SendsAll ms old new = (members_have_float ms ≡ false) × SendsMembers ms old new
