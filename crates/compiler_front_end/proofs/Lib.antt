mod Units
mod Spellings
mod Heights
