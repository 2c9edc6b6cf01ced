-- What the code sees of an item is the model's item.
use Rattle.ds_inlet.specs.declared.hosts.Seen.{Seen}
use Rattle.ds_inlet.specs.declared.hosts.Seen.TheVariants as seens
use Rattle.ds_model.specs.Scheme.{Item, Hello, Framed}

abbrev pub seen_of : Seen → Item
seen_of (seens.Hello lane) = Hello lane
seen_of (seens.Frame number messages) = Framed number messages.items
