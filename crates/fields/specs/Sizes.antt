-- What a slot with a page in it writes has the slot's size: a law of its type, so it stands here.
use Rattle.std.specs.Prelude.{length, ◌≡◌, refl}
use Rattle.records.specs.declared.slots.Heard.{Heard}
use Rattle.records.specs.declared.slots.Held.{Held}
use Rattle.fields.specs.Codecs.{run}
use Rattle.fields.specs.Layout.{heard, held}

pub heard_long : (h : Heard) → length (heard.put h) ≡ heard.size
unfolding run
heard_long h = refl

pub held_long : (h : Held) → length (held.put h) ≡ held.size
unfolding run
held_long h = refl
