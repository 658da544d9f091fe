mod Colons
mod Items
mod MembersOfFrames
mod Names
