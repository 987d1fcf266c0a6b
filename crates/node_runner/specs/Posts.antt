-- What a node posts.
use Rattle.std.specs.Prelude.{◌≡◌, Bool, true, List}
use Rattle.std.specs.List.{list_all}
use Rattle.yard_model.specs.declared.out.Item.{Item}
use Rattle.yard_model.specs.declared.out.Item.TheVariants as item
use Rattle.yard_model.specs.declared.packet.Packet.{Packet}
use Rattle.yard_model.specs.Genuine.{is_genuine_packet}
use Rattle.yard_model.specs.Script.{Script}
use Rattle.node_runner.specs.declared.tray.Tray.{Tray}

-- a post is a genuine packet
abbrev pub is_genuine_item : Script → Item → Bool
is_genuine_item c (item.Fact f) = true
is_genuine_item c (item.Post p) = is_genuine_packet c p

abbrev pub AreGenuine : Script → List Item → Type 0
AreGenuine c items = list_all (is_genuine_item c) items ≡ true

-- where the items so far are, these are
abbrev pub StayGenuine : Script → List Item → List Item → Type 0
StayGenuine c old new = AreGenuine c old → AreGenuine c new

abbrev pub ArePackets : Script → List Packet → Type 0
ArePackets c packets = list_all (is_genuine_packet c) packets ≡ true

-- what it told so far, and what is to be posted of it
abbrev pub IsGenuineTray : Script → Tray → Type 0
IsGenuineTray c t = AreGenuine c t.out.items × ArePackets c t.posts.items

-- where a tray is genuine, so is it after this
abbrev pub KeepsTray : Script → Tray → Tray → Type 0
KeepsTray c old new = IsGenuineTray c old → IsGenuineTray c new
