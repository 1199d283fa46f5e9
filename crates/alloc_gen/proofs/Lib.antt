mod Columns
mod LawfulLists
mod MadeParts
mod MadeSides
mod Numbers
mod PartsInOrder
mod Shuffles
